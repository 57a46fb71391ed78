-- The instructions of a reached method, by place.
use Rattle.std.proofs.Common.{◌≡◌, ℕ, List, Some, Contains, map, slice_get, sym, ap, ◌∙◌, subst}
use Rattle.std.proofs.lemmas.Option.{same_Some}
use Rattle.class_format.specs.declared.record.ClassRecord.{ClassRecord}
use Rattle.opcodes.specs.declared.listed.Listed.{Listed}
use Rattle.program.proofs.Lists.{contains_at, place_of, slice_get_mapped, slice_get_of}
use Rattle.program.specs.declared.method.MethodId.{MethodId}
use Rattle.reached_methods.proofs.Own.{listed_instruction}
use Rattle.reached_methods.specs.Reached.{IsReachedMethod, IsInstructionAt, is_method}
use Rattle.reached_methods.specs.declared.method.ReachedMethod.{ReachedMethod}
use Rattle.resolution.specs.Resolution.{Names, Resolved, resolve}
use Rattle.resolution.specs.declared.target.Target.{Target}
use Rattle.class_profile.specs.Profile.{IsOfProfile}
use Rattle.linked_laws.proofs.Resolved.{WellNamed, well_named}

-- the instruction at a place of a reached method
module _ (classes : List ClassRecord) (main : MethodId) (r : ReachedMethod) (reached : IsReachedMethod classes main r) where
  abbrev resolves : Listed → Resolved
  resolves item = resolve classes (is_method r.id main) reached.class.pool r.listing item

  resolved_at : (k : ℕ) (t : Target) → slice_get r.targets k ≡ Some t → slice_get (map resolves r.listing) k ≡ Some (Names t)
  resolved_at k t there = ap (λ (l : List Resolved). slice_get l k) reached.targets ∙ slice_get_of Names r.targets k t there

  pub instruction_at : (k : ℕ) (item : Listed) (t : Target) → slice_get r.listing k ≡ Some item → slice_get r.targets k ≡ Some t → IsInstructionAt classes main r.id item.pc item.instr (Names t)
  instruction_at k item t item_there t_there =
      let found = slice_get_mapped resolves r.listing k (Names t) (resolved_at k t t_there) in
      let same = same_Some found.0 item (sym found.1 ∙ item_there) in
      listed_instruction classes main r.id reached.class reached.body r.listing item.pc item.instr (Names t) reached.code reached.listing
      (contains_at r.listing k item item_there) (ap resolves (sym same) ∙ found.2)

  -- an instruction names each target
  pub instruction_of : (t : Target) → Contains r.targets t → (item : Listed) × IsInstructionAt classes main r.id item.pc item.instr (Names t)
  instruction_of t inside =
      let at = place_of r.targets t inside in
      let found = slice_get_mapped resolves r.listing at.0 (Names t) (resolved_at at.0 t at.1) in
      (found.0, instruction_at at.0 found.0 t found.1 at.1)

  -- and what it names is fit for it
  pub well_target : IsOfProfile classes → (t : Target) → Contains r.targets t → WellNamed classes (is_method r.id main) reached.class.pool (Names t)
  well_target profile t inside =
      let at = place_of r.targets t inside in
      let found = slice_get_mapped resolves r.listing at.0 (Names t) (resolved_at at.0 t at.1) in
      let item = found.0 in
      subst (WellNamed classes (is_method r.id main) reached.class.pool) found.2
      (well_named classes profile (is_method r.id main) reached.class.pool r.listing item.pc reached.body.code item.pc item.instr
      (reached.listing.decodes item.pc item.instr (contains_at r.listing at.0 item found.1)))
