-- The kinds before each one have no fault.
use Rattle.std.proofs.Common.{List, refl, arith, rules}
use Rattle.class_format.specs.declared.record.ClassRecord.{ClassRecord}
use Rattle.class_profile.proofs.KindOrder.{FreeBefore, first_kind, next_kind, refused, mainless}
use Rattle.std.proofs.lemmas.Result.{IfErr-weaker}
use Rattle.class_profile.specs.Checks.{IsBreach}
use Rattle.class_profile.specs.Members.{HasOneMain}
use Rattle.class_profile.specs.Profile.{AllMeet, IsRefusedFor}
use Rattle.class_profile.specs.declared.refusal.ClassKind.TheVariants.{DuplicateClass, NoMain, ClassInit, InstanceField, FieldType, Constructor, ThreadClass, NameForm}
use Rattle.class_profile.proofs.check.check_classes.Goals as goal

-- ---- What is known before each kind

module _ (classes : List ClassRecord) (names : AllMeet DuplicateClass classes) where
  before_main : FreeBefore NoMain classes
  before_main = next_kind classes DuplicateClass NoMain refl names (first_kind classes)

  module _ (main : HasOneMain classes) where
    before_init : FreeBefore ClassInit classes
    before_init = next_kind classes NoMain ClassInit refl main before_main

    module _ (inits : AllMeet ClassInit classes) where
      before_fields : FreeBefore InstanceField classes
      before_fields = next_kind classes ClassInit InstanceField refl inits before_init

      module _ (fields : AllMeet InstanceField classes) where
        before_types : FreeBefore FieldType classes
        before_types = next_kind classes InstanceField FieldType refl fields before_fields

        module _ (types : AllMeet FieldType classes) where
          before_constructors : FreeBefore Constructor classes
          before_constructors = next_kind classes FieldType Constructor refl types before_types

          module _ (constructors : AllMeet Constructor classes) where
            before_threads : FreeBefore ThreadClass classes
            before_threads = next_kind classes Constructor ThreadClass refl constructors before_constructors

            before_forms : AllMeet ThreadClass classes → FreeBefore NameForm classes
            before_forms threads = next_kind classes ThreadClass NameForm refl threads before_threads

-- ---- The refusals

pub returns-in_err-check_names-clause-refused : goal.returns-in_err-check_names-clause-refused
returns-in_err-check_names-clause-refused c =
    let classes = c.args.classes.now in
    let refusal = c.in_err-check_names.field-0.0 in
    let h : IsRefusedFor classes refusal = refused classes DuplicateClass refusal (λ own. omega arith) (first_kind classes) c.in_err-check_names.ensures.refused in
    search rules

pub returns-in_err-check_main-clause-refused : goal.returns-in_err-check_main-clause-refused
returns-in_err-check_main-clause-refused c =
    let classes = c.args.classes.now in
    let refusal = c.in_err-check_main.field-0.0 in
    let h : IsRefusedFor classes refusal = mainless classes refusal (before_main classes c.in_ok-check_names.ensures.ok) c.in_err-check_main.ensures.refused in
    search rules

pub returns-in_err-check_rule-clause-refused : goal.returns-in_err-check_rule-clause-refused
returns-in_err-check_rule-clause-refused c =
    let classes = c.args.classes.now in
    let refusal = c.in_err-check_rule.field-0.0 in
    let before = before_init classes c.in_ok-check_names.ensures.ok c.in_ok-check_main.ensures.ok in
    let h : IsRefusedFor classes refusal = refused classes ClassInit refusal (λ own. omega arith) before c.in_err-check_rule.ensures.refused in
    search rules

pub returns-in_err-check_rule-2-clause-refused : goal.returns-in_err-check_rule-2-clause-refused
returns-in_err-check_rule-2-clause-refused c =
    let classes = c.args.classes.now in
    let refusal = c.in_err-check_rule-2.field-0.0 in
    let before = before_fields classes c.in_ok-check_names.ensures.ok c.in_ok-check_main.ensures.ok c.in_ok-check_rule.ensures.ok in
    let h : IsRefusedFor classes refusal = refused classes InstanceField refusal (λ own. omega arith) before c.in_err-check_rule-2.ensures.refused in
    search rules

pub returns-in_err-check_rule-3-clause-refused : goal.returns-in_err-check_rule-3-clause-refused
returns-in_err-check_rule-3-clause-refused c =
    let classes = c.args.classes.now in
    let refusal = c.in_err-check_rule-3.field-0.0 in
    let before = before_types classes c.in_ok-check_names.ensures.ok c.in_ok-check_main.ensures.ok c.in_ok-check_rule.ensures.ok c.in_ok-check_rule-2.ensures.ok in
    let h : IsRefusedFor classes refusal = refused classes FieldType refusal (λ own. omega arith) before c.in_err-check_rule-3.ensures.refused in
    search rules

pub returns-in_err-check_rule-4-clause-refused : goal.returns-in_err-check_rule-4-clause-refused
returns-in_err-check_rule-4-clause-refused c =
    let classes = c.args.classes.now in
    let refusal = c.in_err-check_rule-4.field-0.0 in
    let before = before_constructors classes c.in_ok-check_names.ensures.ok c.in_ok-check_main.ensures.ok c.in_ok-check_rule.ensures.ok c.in_ok-check_rule-2.ensures.ok c.in_ok-check_rule-3.ensures.ok in
    let h : IsRefusedFor classes refusal = refused classes Constructor refusal (λ own. omega arith) before c.in_err-check_rule-4.ensures.refused in
    search rules

pub returns-in_err-check_rule-5-clause-refused : goal.returns-in_err-check_rule-5-clause-refused
returns-in_err-check_rule-5-clause-refused c =
    let classes = c.args.classes.now in
    let refusal = c.in_err-check_rule-5.field-0.0 in
    let before = before_threads classes c.in_ok-check_names.ensures.ok c.in_ok-check_main.ensures.ok c.in_ok-check_rule.ensures.ok c.in_ok-check_rule-2.ensures.ok c.in_ok-check_rule-3.ensures.ok c.in_ok-check_rule-4.ensures.ok in
    let h : IsRefusedFor classes refusal = refused classes ThreadClass refusal (λ own. omega arith) before c.in_err-check_rule-5.ensures.refused in
    search rules

pub returns-clause-refused : goal.returns-clause-refused
returns-clause-refused c =
    let classes = c.args.classes.now in
    let before = before_forms classes c.in_ok-check_names.ensures.ok c.in_ok-check_main.ensures.ok c.in_ok-check_rule.ensures.ok c.in_ok-check_rule-2.ensures.ok c.in_ok-check_rule-3.ensures.ok c.in_ok-check_rule-4.ensures.ok c.in_ok-check_rule-5.ensures.ok in
    IfErr-weaker c.check_rule-6.result (IsBreach NameForm classes) (IsRefusedFor classes) (λ refusal breach. refused classes NameForm refusal (λ own. omega arith) before breach) c.check_rule-6.ensures.refused
