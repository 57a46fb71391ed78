-- A step in front, and a step that is dropped.
use Rattle.std.proofs.Common.{◌≡◌, ℕ, List, [], ◌∷◌, ◌++◌, Contains, inl, inr, ◌⊎◌}
use Rattle.std.specs.List.{AllByRecursion}
use Rattle.program.proofs.Lists.{contains_nil}
use Rattle.program.specs.Program.{Prog}
use Rattle.action_orders.specs.declared.action.ActionRef.{ActionRef}
use Rattle.action_orders.specs.declared.sequence.SequenceStep.{SequenceStep}
use Rattle.action_orders.specs.Execution.{Exec}
use Rattle.action_orders.specs.Actions.{Act}
use Rattle.action_orders.specs.Causality.{IsIn, Conditions, MeetConditions, MeetFrom}
use Rattle.sequence_laws.specs.Laws.{FrontPadding, Merging, CommitNoReads, last_set, uncommitted}

-- what is said of all is said of all but one
all_but : {A : Type 0} (P : A → Type 0) (xs : List A) (x : A) (ys : List A) → AllByRecursion P (xs ++ x ∷ ys) → AllByRecursion P (xs ++ ys)
all_but P [] x ys all = all.1
all_but P (y ∷ xs) x ys all = (all.0, all_but P xs x ys all.1)

-- the second of two steps behind the set before the first
dropped : (p : Prog) (e : Exec) (before : List ActionRef) (first second : SequenceStep) (later : List SequenceStep) →
    CommitNoReads p e before first second → Conditions p e first.set second later → Conditions p e before second later
dropped p e before first second later none c = record {
  condition1 = c.condition1;
  condition2 = c.condition2;
  condition3 = c.condition3;
  condition4 = c.condition4;
  condition5 = λ v r w read inside. c.condition5 v r w read (record { action = inside.action; member = none.grows _ inside.member });
  condition6 = λ v r w read action fresh sees. c.condition6 v r w read action (λ inside. fresh (none.first v r read inside)) sees;
  condition7 = λ v r w read inside fresh sees. absurd (fresh (none.first v r read (none.second v r read inside)));
  condition8 = c.condition8;
  condition9 = c.condition9;
}

-- a step whose later steps are fewer by one
fewer : (p : Prog) (e : Exec) (before : List ActionRef) (step : SequenceStep) (front : List SequenceStep) (first : SequenceStep) (later : List SequenceStep) →
    Conditions p e before step (front ++ first ∷ later) → Conditions p e before step (front ++ later)
fewer p e before step front first later c = record {
  condition1 = c.condition1;
  condition2 = c.condition2;
  condition3 = c.condition3;
  condition4 = c.condition4;
  condition5 = c.condition5;
  condition6 = c.condition6;
  condition7 = c.condition7;
  condition8 = λ x y z essential leads inside. (let kept = c.condition8 x y z essential leads inside in (kept.0, all_but _ front first later kept.1));
  condition9 = c.condition9;
}

merge_from : (p : Prog) (e : Exec) (before : List ActionRef) (front : List SequenceStep) (first second : SequenceStep) (later : List SequenceStep) →
    CommitNoReads p e (last_set before front) first second →
    MeetFrom p e before (front ++ first ∷ second ∷ later) → MeetFrom p e before (front ++ second ∷ later)
merge_from p e before [] first second later none m = (dropped p e before first second later none m.1.0, m.1.1)
merge_from p e before (step ∷ front) first second later none m =
    (fewer p e before step front first (second ∷ later) m.0, merge_from p e step.set front first second later none m.1)

pub merging : Merging
merging p e front first second later none m = merge_from p e [] front first second later none m

-- nothing is in the empty set
pub none_in : (p : Prog) (e : Exec) (a : Act) → IsIn p e [] a → ⊥
none_in p e a inside = contains_nil _ inside.member
