-- A run that leaves the bounds ends in no other way.
use Rattle.std.proofs.Common.{◌≡◌, ◌+◌, ◌++◌, ℕ, ℤ, pos, Bool, List, [], ◌∷◌, Option, Some, None, refl, sym, ap, subst, ◌∙◌, arith, inl, inr}
use Rattle.std.proofs.lemmas.Int.{ints}
use Rattle.std.proofs.lemmas.List.{append-nil}
use Rattle.std.specs.List.{cons_option}
use Rattle.line_text.specs.declared.bounds.Bounds.{Bounds}
use Rattle.opcodes.specs.declared.instruction.Instr.TheVariants as instr
use Rattle.opcodes.specs.Instructions.{length_of}
use Rattle.program.specs.Bounds.{InBounds}
use Rattle.program.specs.Program.{Prog}
use Rattle.program.specs.Run.{Move}
use Rattle.program.specs.Step.{Activation, Effect, Int, Step, read, shows}
use Rattle.program.specs.declared.event.Event.TheVariants as event
use Rattle.thread_meaning.specs.Paths.{IsOrdered, Leads, read_in, reads_of}
use Rattle.thread_meaning.specs.Tracing.{Arrives, IsReadsLeft, IsReadsShort}
use Rattle.thread_meaning.proofs.OneStep.{alike}
use Rattle.thread_meaning.proofs.Runs.{no_step_behind, one_entry, reads_first, same_first}
use Rattle.thread_runs.proofs.Leaving.{Leaves}

-- ---- Lists of values

cons_append : (o : Option ℤ) (xs ys : List ℤ) → cons_option o xs ++ ys ≡ cons_option o (xs ++ ys)
cons_append None xs ys = refl
cons_append (Some n) xs ys = refl

peel : (o : Option ℤ) (xs ys : List ℤ) → cons_option o xs ≡ cons_option o ys → xs ≡ ys
peel None xs ys e = e
peel (Some n) xs ys e = cc

first_read : (m : Move) (moves : List Move) (left : List ℤ) → reads_of (m ∷ moves) ++ left ≡ cons_option (read_in m.effect) (reads_of moves ++ left)
first_read m moves left = ap (λ (xs : List ℤ). xs ++ left) (reads_first m moves) ∙ cons_append (read_in m.effect) (reads_of moves) left

-- ---- Of two lists of steps with the same reads one goes on behind the other

module _ (p : Prog) (ended : ℕ → Bool) (ordered : IsOrdered p) where
  -- the second list goes on where the first leads, or the first goes on at least one step where the second leads
  data Compared (t u : List Activation) (moves others : List Move) (left right : List ℤ) : Type 0 where
    behind : (rest : List Move) → others ≡ moves ++ rest → Leads p ended t rest u → left ≡ reads_of rest ++ right → Compared t u moves others left right
    before : (m : Move) (rest : List Move) → Step p ended u m.effect m.state → right ≡ cons_option (read_in m.effect) (reads_of rest ++ left) → Compared t u moves others left right

  same_move : (m o : Move) → m.effect ≡ o.effect → m.state ≡ o.state → m ≡ o
  same_move m o effects states = ap (λ (f : Effect). record { effect = f; state = m.state }) effects ∙ ap (λ (x : List Activation). record { effect = o.effect; state = x }) states

  one_more : (t u : List Activation) (m o : Move) (moves others : List Move) (left right : List ℤ) → m ≡ o → Compared t u moves others left right → Compared t u (m ∷ moves) (o ∷ others) left right
  one_more t u m o moves others left right same (behind rest is goes reads) = behind rest (cc (is, same)) goes reads
  one_more t u m o moves others left right same (before n rest step reads) = before n rest step reads

  compare : (s t u : List Activation) (moves others : List Move) (left right : List ℤ) → Leads p ended s moves t → Leads p ended s others u → reads_of moves ++ left ≡ reads_of others ++ right → Compared t u moves others left right
  compare s t u [] others left right there goes reads = behind others refl (subst (λ (x : List Activation). Leads p ended x others u) there goes) reads
  compare s t u (m ∷ moves) [] left right there goes reads =
      before m moves (subst (λ (x : List Activation). Step p ended x m.effect m.state) goes there.0) (sym reads ∙ first_read m moves left)
  compare s t u (m ∷ moves) (o ∷ others) left right there goes reads =
      let lists : cons_option (read_in m.effect) (reads_of moves ++ left) ≡ cons_option (read_in o.effect) (reads_of others ++ right) = sym (first_read m moves left) ∙ reads ∙ first_read o others right in
      let same = same_first p ended s m o (reads_of others ++ right) (reads_of moves ++ left) [] ordered there.0 goes.0 (sym lists ∙ sym (append-nil _)) in
      one_more t u m o moves others left right (same_move m o same.0 same.1)
      (compare m.state t u moves others left right there.1 (subst (λ (x : List Activation). Leads p ended x others u) (sym same.1) goes.1)
      (peel (read_in m.effect) _ _ (lists ∙ ap (λ (f : Effect). cons_option (read_in f) (reads_of others ++ right)) (sym same.0))))

  -- ---- Ends without a further step

  leaves_not : (k : ℕ) (values : List ℤ) (bounds : Bounds) (moves : List Move) (s : List Activation) (right : List ℤ) → Leaves p k ended values bounds → Arrives p k ended values bounds moves s right →
      ((m : Move) (more : List ℤ) → Step p ended s m.effect m.state → right ≡ cons_option (read_in m.effect) more → ⊥) → ⊥
  leaves_not k values bounds moves s right l a none =
      go (compare l.arrives.start l.state s l.moves moves (cons_option (read_in l.effect) l.left) right l.arrives.leads
      (subst (λ (x : List Activation). Leads p ended x moves s) (one_entry p k a.start l.arrives.start ordered a.entry l.arrives.entry) a.leads)
      (sym l.arrives.reads_are ∙ a.reads_are))
    where
      further : (rest : List Move) → moves ≡ l.moves ++ rest → Leads p ended l.state rest s → cons_option (read_in l.effect) l.left ≡ reads_of rest ++ right → ⊥
      further [] is goes reads =
          none (record { effect = l.effect; state = l.next }) l.left (subst (λ (x : List Activation). Step p ended x l.effect l.next) goes l.step) (sym reads)
      further (m ∷ rest) is goes reads =
          let same = same_first p ended l.state (record { effect = l.effect; state = l.next }) m (reads_of rest ++ right) l.left [] ordered l.step goes.0
          (sym (first_read m rest right) ∙ sym reads ∙ sym (append-nil _)) in
          l.never m rest (sym same.0) (subst (λ (ms : List Move). InBounds ms bounds.jumps bounds.width) is a.in_bounds)

      go : Compared l.state s l.moves moves (cons_option (read_in l.effect) l.left) right → ⊥
      go (behind rest is goes reads) = further rest is goes reads
      go (before m rest step reads) = none m _ step reads

  pub not_short : (k : ℕ) (values : List ℤ) (bounds : Bounds) → Leaves p k ended values bounds → IsReadsShort p k ended values bounds → ⊥
  not_short k values bounds l h = leaves_not k values bounds h.moves h.state [] l h.arrives stuck
    where
      -- the step that reads 0 there
      zero_step : Step p ended h.state (shows (event.Read h.next.variable (pos 0)) (pos 0 ∷ [])) (record h.next.next.top { pc = h.next.next.top.pc + length_of (instr.Getstatic h.next.index); stack = Int (pos 0) ∷ h.next.next.top.stack } ∷ h.next.next.callers)
      zero_step = read h.next.index h.next.variable (pos 0) h.next.next.top.stack (omega (arith, ints), omega (arith, ints))
          (record { top = h.next.next.top; callers = h.next.next.callers; stands = h.next.next.stands; method = h.next.next.method; is_method = h.next.next.is_method; instruction = h.next.next.instruction; stack = refl; next = refl }) refl

      reading : (m : Move) → Step p ended h.state m.effect m.state → (n : ℤ) × (read_in m.effect ≡ Some n)
      reading m step = elim (alike p ended h.state m.state _ m.effect _ ordered step zero_step) [
        | inl same ↦ (pos 0, ap read_in same.0)
        | inr both ↦ (both.first, ap read_in both.first_is)
      ]

      stuck : (m : Move) (more : List ℤ) → Step p ended h.state m.effect m.state → [] ≡ cons_option (read_in m.effect) more → ⊥
      stuck m more step reads =
          let (n, is) = reading m step in
          let never : [] ≡ n ∷ more = reads ∙ ap (λ (o : Option ℤ). cons_option o more) is in
          cc

  pub not_left : (k : ℕ) (values : List ℤ) (bounds : Bounds) (count : ℕ) → Leaves p k ended values bounds → IsReadsLeft p k ended values bounds count → ⊥
  not_left k values bounds count l h = leaves_not k values bounds h.moves [] h.left l h.arrives (λ m more step reads. no_step_behind p ended [] m.state m.effect refl step)
