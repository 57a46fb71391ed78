-- Each step makes what is left to do smaller: the backward jumps left, then the code left over all frames, the outermost first.
use Rattle.std.proofs.Common.{◌≡◌, ◌≢◌, ◌<◌, ◌≤◌, ◌+◌, ◌-◌, ◌*◌, ◌^◌, ◌⊎◌, ℕ, zero, suc, Bool, true, false, List, [], ◌∷◌, length, map, refl, sym, ap, subst, ◌∙◌, arith, inl, inr, Contains, if◌then◌else◌}
use Rattle.std.specs.Prelude.{Option}
use Rattle.thread_meaning.specs.declared.doing.Doing.{Doing}
use Rattle.std.proofs.Math.Nat.{mul-le-mul_right, pow-succ', pow-zero}
use Rattle.opcodes.specs.Instructions.{length_of}
use Rattle.opcodes.specs.declared.instruction.Instr.{Instr}
use Rattle.program.specs.Program.{Prog, IsMethod}
use Rattle.program.specs.Step.{Activation, Effect, Step, entered_with, Int}
use Rattle.program.specs.declared.method.Method.{Method}
use Rattle.program.specs.declared.method.MethodId.{MethodId}
use Rattle.program.proofs.Lists.{contains_nil, contains_here, contains_later, contains_cases, contains_mapped}
use Rattle.thread_meaning.specs.Doings.{doing_of}
use Rattle.thread_meaning.specs.Outcomes.{Outcome, IsRunning, NoneTwice, inside, reads, calls, ends, returns, returns_int}
use Rattle.thread_meaning.proofs.Acting.{kept}
use Rattle.thread_meaning.proofs.Normal.{Normal, normal}

-- ---- At most as many frames as methods

record Without {X : Type 0} (ys : List X) (y : X) : Type 0 where
  pub rest : List X
  pub count : length ys ≡ suc (length rest)
  pub keeps : (x : X) → Contains ys x → x ≢ y → Contains rest x

without_first : {X : Type 0} (z y : X) (zs : List X) → z ≡ y → Without (z ∷ zs) y
without_first z y zs same = record {
  rest = zs;
  count = omega arith;
  keeps = λ x there other. elim (contains_cases z x zs there) [ inl e ↦ absurd (other (sym e ∙ same)) | inr later ↦ later ];
}

without_later : {X : Type 0} (z y : X) (zs : List X) → Without zs y → Without (z ∷ zs) y
without_later z y zs w = record {
  rest = z ∷ w.rest;
  count = omega (arith, w.count);
  keeps = λ x there other. elim (contains_cases z x zs there) [ inl e ↦ subst (λ u. Contains (z ∷ w.rest) u) e (contains_here z w.rest) | inr later ↦ contains_later z x w.rest (w.keeps x later other) ];
}

without : {X : Type 0} (ys : List X) (y : X) → Contains ys y → Without ys y
without [] y there = absurd (contains_nil y there)
without (z ∷ zs) y there = elim (contains_cases z y zs there) [ inl e ↦ without_first z y zs e | inr later ↦ without_later z y zs (without zs y later) ]

pub few_frames : (s : List Activation) (ids : List MethodId) → NoneTwice s → ((id : MethodId) → IsRunning s id → Contains ids id) → length s ≤ length ids
few_frames [] ids none known = omega arith
few_frames (a ∷ s) ids none known =
    let w = without ids a.method (known a.method (contains_here a.method (map (λ (x : Activation). x.method) s))) in
    let fewer = few_frames s w.rest none.1
    (λ id running. w.keeps id (known id (contains_later a.method id (map (λ (x : Activation). x.method) s) running)) (λ same. none.0 (subst (IsRunning s) same running))) in
    omega (arith, fewer, w.count)

-- ---- The methods that are run are the program's

abbrev pub AreKnown : Prog → List Activation → Type 0
AreKnown p s = (id : MethodId) → IsRunning s id → Contains (map (λ m. m.id) p.methods) id

known_tail : (p : Prog) (a : Activation) (s : List Activation) → AreKnown p (a ∷ s) → AreKnown p s
known_tail p a s known id running = known id (contains_later a.method id (map (λ (x : Activation). x.method) s) running)

known_head : (p : Prog) (a : Activation) (s : List Activation) → AreKnown p (a ∷ s) → Contains (map (λ m. m.id) p.methods) a.method
known_head p a s known = known a.method (contains_here a.method (map (λ (x : Activation). x.method) s))

known_cons : (p : Prog) (b : Activation) (s : List Activation) → Contains (map (λ m. m.id) p.methods) b.method → AreKnown p s → AreKnown p (b ∷ s)
known_cons p b s here below id running = elim (contains_cases b.method id (map (λ (x : Activation). x.method) s) running) [
  | inl e ↦ subst (λ (x : MethodId). Contains (map (λ (m : Method). m.id) p.methods) x) e here
  | inr later ↦ below id later
]

-- the same method in the place of the innermost one
known_same : (p : Prog) (a b : Activation) (s : List Activation) → b.method ≡ a.method → AreKnown p (a ∷ s) → AreKnown p (b ∷ s)
known_same p a b s same known =
    known_cons p b s (subst (λ (x : MethodId). Contains (map (λ (m : Method). m.id) p.methods) x) (sym same) (known_head p a s known)) (known_tail p a s known)

pub known_method : (p : Prog) (id : MethodId) (m : Method) → IsMethod p id m → Contains (map (λ m. m.id) p.methods) m.id
known_method p id m is = contains_mapped (λ (x : Method). x.id) p.methods m is.reached

known_outcome : (p : Prog) (m : Option ℕ) (d : Doing) (behind : ℕ) (a : Activation) (callers : List Activation) (e : Effect) (t : List Activation) → Outcome p m d behind a callers e t → AreKnown p (a ∷ callers) → AreKnown p t
known_outcome p m d behind a callers e t (inside b h goes) known =
    subst (AreKnown p) (sym goes) (known_same p a b callers (kept d behind a (record { effect = e; after = b }) h).method known)
known_outcome p m d behind a callers e t (reads v n fits does is goes) known = subst (AreKnown p) (sym goes) (known_same p a (record a { pc = behind; stack = Int n ∷ a.stack }) callers refl known)
known_outcome p m d behind a callers e t (calls id called arguments rest does is_called count stack is goes) known =
    subst (AreKnown p) (sym goes) (known_cons p (entered_with called arguments) (record a { stack = rest } ∷ callers) (known_method p id called is_called) (known_same p a (record a { stack = rest }) callers refl known))
known_outcome p m d behind a callers e t (ends does alone is goes) known = subst (AreKnown p) (sym goes) (λ id running. absurd (contains_nil id running))
known_outcome p m d behind a callers e t (returns caller others calling call called does under is_calling at is goes) known =
    subst (AreKnown p) (sym goes) (known_same p caller (record caller { pc = caller.pc + length_of call }) others refl (subst (AreKnown p) under (known_tail p a callers known)))
known_outcome p m d behind a callers e t (returns_int n below caller others calling call called does stack under is_calling at is goes) known =
    subst (AreKnown p) (sym goes) (known_same p caller (record caller { pc = caller.pc + length_of call; stack = Int n ∷ caller.stack }) others refl (subst (AreKnown p) under (known_tail p a callers known)))

pub known_step : (p : Prog) (ended : ℕ → Bool) (s t : List Activation) (e : Effect) → Step p ended s e t → AreKnown p s → AreKnown p t
known_step p ended s t e step known = go (normal p ended s e t step)
  where
    go : Normal p ended s e t → AreKnown p t
    go n = known_outcome p n.method.frame.monitor (doing_of ended n.instr n.names) (n.top.pc + length_of n.instr) n.top n.callers e t n.outcome (subst (AreKnown p) n.stands known)

-- ---- The code that is left, as a number to the base w; a frame counts from where it stands, a caller from behind its call

abbrev pub callers_left : ℕ → ℕ → List Activation → ℕ
callers_left w room [] = 0
callers_left w room (a ∷ s) = (w - 2 - a.pc) * w ^ room + callers_left w (suc room) s

abbrev pub code_left : ℕ → ℕ → List Activation → ℕ
code_left w room [] = 0
code_left w room (a ∷ s) = (w - 1 - a.pc) * w ^ room + callers_left w (suc room) s

positive : (w n : ℕ) → 0 < w → 0 < w ^ n
positive w zero some = omega (arith, pow-zero w)
positive w (suc n) some = let less = mul-le-mul_right (w ^ n) some in omega (arith, pow-succ' w n, less, positive w n some)

-- one more than a product fits below the next power
times : (w u x : ℕ) → u < w → u * x + x ≤ w * x
times w u x lt = let le = mul-le-mul_right {m = suc u} {n = w} x lt in let e : suc u * x ≡ u * x + x = omega arith in omega (arith, le, e)

callers_bound : (w room : ℕ) (s : List Activation) → 2 ≤ w → callers_left w room s + w ^ room ≤ w ^ (room + length s)
callers_bound w room [] big = let e : room + 0 ≡ room = omega arith in subst (λ (n : ℕ). 0 + w ^ room ≤ w ^ n) (sym e) (omega arith)
callers_bound w room (a ∷ s) big =
    let same : suc room + length s ≡ room + length (a ∷ s) = omega arith in
    let rest : callers_left w (suc room) s + w ^ suc room ≤ w ^ (room + length (a ∷ s)) = subst (λ (n : ℕ). callers_left w (suc room) s + w ^ suc room ≤ w ^ n) same (callers_bound w (suc room) s big) in
    let here = times w (w - 2 - a.pc) (w ^ room) (omega arith) in
    omega (arith, rest, here, pow-succ' w room)

code_bound : (w room : ℕ) (s : List Activation) → 2 ≤ w → code_left w room s < w ^ (room + length s)
code_bound w room [] big = positive w (room + 0) (omega arith)
code_bound w room (a ∷ s) big =
    let same : suc room + length s ≡ room + length (a ∷ s) = omega arith in
    let rest : callers_left w (suc room) s + w ^ suc room ≤ w ^ (room + length (a ∷ s)) = subst (λ (n : ℕ). callers_left w (suc room) s + w ^ suc room ≤ w ^ n) same (callers_bound w (suc room) s big) in
    let here = times w (w - 1 - a.pc) (w ^ room) (omega arith) in
    omega (arith, rest, here, pow-succ' w room, positive w room (omega arith))

-- ---- What a step does to it

-- less code in the innermost frame
further : (w room : ℕ) (a b : Activation) (s : List Activation) → 2 ≤ w → a.pc < w - 1 → a.pc < b.pc → code_left w room (b ∷ s) < code_left w room (a ∷ s)
further w room a b s big low lt =
    let less : suc (w - 1 - b.pc) * w ^ room ≤ (w - 1 - a.pc) * w ^ room = mul-le-mul_right (w ^ room) (omega arith) in
    let e : suc (w - 1 - b.pc) * w ^ room ≡ (w - 1 - b.pc) * w ^ room + w ^ room = omega arith in
    omega (arith, less, e, positive w room (omega arith))

entering : (w room : ℕ) (a b : Activation) (called : Activation) (s : List Activation) → 2 ≤ w → a.pc < w - 1 → b.pc ≡ a.pc → called.pc ≡ 0 → code_left w room (called ∷ b ∷ s) < code_left w (suc room) (a ∷ s)
entering w room a b called s big low same first =
    let one_more : (w - 1 - a.pc) ≡ suc (w - 2 - b.pc) = omega arith in
    let e : (w - 1 - a.pc) * w ^ suc room ≡ (w - 2 - b.pc) * w ^ suc room + w ^ suc room = ap (λ (n : ℕ). n * w ^ suc room) one_more ∙ (omega arith) in
    let here = times w (w - 1 - called.pc) (w ^ room) (omega arith) in
    omega (arith, e, here, pow-succ' w room, positive w room (omega arith))

leaving : (w room : ℕ) (a c d : Activation) (s : List Activation) → 2 ≤ w → a.pc < w - 1 → c.pc < d.pc → code_left w (suc room) (d ∷ s) < code_left w room (a ∷ c ∷ s)
leaving w room a c d s big low lt =
    let less : (w - 1 - d.pc) * w ^ suc room ≤ (w - 2 - c.pc) * w ^ suc room = mul-le-mul_right (w ^ suc room) (omega arith) in
    let some : 1 * w ^ room ≤ (w - 1 - a.pc) * w ^ room = mul-le-mul_right (w ^ room) (omega arith) in
    omega (arith, less, some, positive w room (omega arith))

-- ---- Each step makes it smaller

-- how many more frames there may be
abbrev pub room_for : ℕ → List Activation → ℕ
room_for methods s = methods - length s

abbrev pub left_to_do : ℕ → ℕ → ℕ → List Activation → ℕ
left_to_do w methods jumps s = jumps * w ^ methods + code_left w (room_for methods s) s

-- less code, and no more jumps
less_code : (w methods jumps jumps' : ℕ) (s t : List Activation) → jumps' ≤ jumps → code_left w (room_for methods t) t < code_left w (room_for methods s) s → left_to_do w methods jumps' t < left_to_do w methods jumps s
less_code w methods jumps jumps' s t fewer less = let le = mul-le-mul_right (w ^ methods) fewer in omega (arith, le, less)

-- fewer jumps
fewer_jumps : (w methods jumps jumps' : ℕ) (s t : List Activation) → 2 ≤ w → length t ≤ methods → jumps' + 1 ≡ jumps → left_to_do w methods jumps' t < left_to_do w methods jumps s
fewer_jumps w methods jumps jumps' s t big fits fewer =
    let all : room_for methods t + length t ≡ methods = omega arith in
    let bound : code_left w (room_for methods t) t < w ^ methods = subst (λ (n : ℕ). code_left w (room_for methods t) t < w ^ n) all (code_bound w (room_for methods t) t big) in
    let e : jumps * w ^ methods ≡ jumps' * w ^ methods + w ^ methods = ap (λ (n : ℕ). n * w ^ methods) (sym fewer) ∙ (omega arith) in
    omega (arith, bound, e)

jumps_kept : (b : Bool) (jumps jumps' : ℕ) → jumps' + (if b then 1 else 0) ≡ jumps → jumps' ≤ jumps
jumps_kept true jumps jumps' h = omega arith
jumps_kept false jumps jumps' h = omega arith

one_jump : (b : Bool) (jumps jumps' : ℕ) → b ≡ true → jumps' + (if b then 1 else 0) ≡ jumps → jumps' + 1 ≡ jumps
one_jump true jumps jumps' is h = h
one_jump false jumps jumps' is h = absurd (cc)

-- the innermost frame goes on, in the code or by a backward jump
going_on : (w methods jumps jumps' : ℕ) (a b : Activation) (callers t : List Activation) (e : Effect) → 2 ≤ w → a.pc < w - 1 → t ≡ b ∷ callers → length t ≤ methods →
    (e.backward ≡ true) ⊎ (a.pc < b.pc) → jumps' + (if e.backward then 1 else 0) ≡ jumps → left_to_do w methods jumps' t < left_to_do w methods jumps (a ∷ callers)
going_on w methods jumps jumps' a b callers t e big low goes fits (inl backward) used = fewer_jumps w methods jumps jumps' (a ∷ callers) t big fits (one_jump e.backward jumps jumps' backward used)
going_on w methods jumps jumps' a b callers t e big low goes fits (inr lt) used =
    less_code w methods jumps jumps' (a ∷ callers) t (jumps_kept e.backward jumps jumps' used)
    (subst (λ (x : List Activation). code_left w (room_for methods x) x < code_left w (room_for methods (a ∷ callers)) (a ∷ callers)) (sym goes) (further w (room_for methods (a ∷ callers)) a b callers big low lt))

returning : (w methods jumps jumps' : ℕ) (a c d : Activation) (callers others t : List Activation) (e : Effect) → 2 ≤ w → a.pc < w - 1 → callers ≡ c ∷ others → t ≡ d ∷ others → length (a ∷ callers) ≤ methods → c.pc < d.pc →
    jumps' + (if e.backward then 1 else 0) ≡ jumps → left_to_do w methods jumps' t < left_to_do w methods jumps (a ∷ callers)
returning w methods jumps jumps' a c d callers others t e big low under goes few lt used =
    let some : length (a ∷ c ∷ others) ≤ methods = subst (λ (x : List Activation). length (a ∷ x) ≤ methods) under few in
    let rooms : room_for methods (d ∷ others) ≡ suc (room_for methods (a ∷ c ∷ others)) = omega (arith, some) in
    less_code w methods jumps jumps' (a ∷ callers) t (jumps_kept e.backward jumps jumps' used)
    (subst (λ (x : List Activation). code_left w (room_for methods x) x < code_left w (room_for methods (a ∷ callers)) (a ∷ callers)) (sym goes)
    (subst (λ (x : List Activation). code_left w (room_for methods (d ∷ others)) (d ∷ others) < code_left w (room_for methods (a ∷ x)) (a ∷ x)) (sym under)
    (subst (λ (n : ℕ). code_left w n (d ∷ others) < code_left w (room_for methods (a ∷ c ∷ others)) (a ∷ c ∷ others)) (sym rooms)
    (leaving w (room_for methods (a ∷ c ∷ others)) a c d others big low lt))))

-- the innermost frame stands below a place
abbrev pub IsBelow : ℕ → List Activation → Type 0
IsBelow n [] = Unit {0}
IsBelow n (a ∷ s) = a.pc < n

smaller_outcome : (p : Prog) (m : Option ℕ) (d : Doing) (i : Instr) (w methods jumps jumps' : ℕ) (a : Activation) (callers : List Activation) (e : Effect) (t : List Activation) → 2 ≤ w → a.pc < w - 1 → length (a ∷ callers) ≤ methods → length t ≤ methods →
    jumps' + (if e.backward then 1 else 0) ≡ jumps → Outcome p m d (a.pc + length_of i) a callers e t → left_to_do w methods jumps' t < left_to_do w methods jumps (a ∷ callers)
smaller_outcome p m d i w methods jumps jumps' a callers e t big low few fits used (inside b h goes) =
    going_on w methods jumps jumps' a b callers t e big low goes fits ((kept d (a.pc + length_of i) a (record { effect = e; after = b }) h).goes (omega arith)) used
smaller_outcome p m d i w methods jumps jumps' a callers e t big low few fits used (reads v n is_int does is goes) =
    going_on w methods jumps jumps' a (record a { pc = a.pc + length_of i; stack = Int n ∷ a.stack }) callers t e big low goes fits (inr (omega arith)) used
smaller_outcome p m d i w methods jumps jumps' a callers e t big low few fits used (calls id called arguments rest does is_called count stack is goes) =
    let entered = entered_with called arguments in
    let caller : Activation = record a { stack = rest } in
    let some : length (entered ∷ caller ∷ callers) ≤ methods = subst (λ (x : List Activation). length x ≤ methods) goes fits in
    let rooms : room_for methods (a ∷ callers) ≡ suc (room_for methods (entered ∷ caller ∷ callers)) = omega (arith, some) in
    less_code w methods jumps jumps' (a ∷ callers) t (jumps_kept e.backward jumps jumps' used)
    (subst (λ (x : List Activation). code_left w (room_for methods x) x < code_left w (room_for methods (a ∷ callers)) (a ∷ callers)) (sym goes)
    (subst (λ (n : ℕ). code_left w (room_for methods (entered ∷ caller ∷ callers)) (entered ∷ caller ∷ callers) < code_left w n (a ∷ callers)) (sym rooms)
    (entering w (room_for methods (entered ∷ caller ∷ callers)) a caller entered callers big low refl refl)))
smaller_outcome p m d i w methods jumps jumps' a callers e t big low few fits used (ends does alone is goes) =
    let some : 1 * w ^ room_for methods (a ∷ callers) ≤ (w - 1 - a.pc) * w ^ room_for methods (a ∷ callers) = mul-le-mul_right (w ^ room_for methods (a ∷ callers)) (omega arith) in
    less_code w methods jumps jumps' (a ∷ callers) t (jumps_kept e.backward jumps jumps' used)
    (subst (λ (x : List Activation). code_left w (room_for methods x) x < code_left w (room_for methods (a ∷ callers)) (a ∷ callers)) (sym goes)
    (omega (arith, some, positive w (room_for methods (a ∷ callers)) (omega arith))))
smaller_outcome p m d i w methods jumps jumps' a callers e t big low few fits used (returns caller others calling call called does under is_calling at is goes) =
    returning w methods jumps jumps' a caller (record caller { pc = caller.pc + length_of call }) callers others t e big low under goes few (omega arith) used
smaller_outcome p m d i w methods jumps jumps' a callers e t big low few fits used (returns_int n below caller others calling call called does stack under is_calling at is goes) =
    returning w methods jumps jumps' a caller (record caller { pc = caller.pc + length_of call; stack = Int n ∷ caller.stack }) callers others t e big low under goes few (omega arith) used

pub smaller : (p : Prog) (ended : ℕ → Bool) (w methods jumps jumps' : ℕ) (s t : List Activation) (e : Effect) → 2 ≤ w → IsBelow (w - 1) s → length s ≤ methods → length t ≤ methods → jumps' + (if e.backward then 1 else 0) ≡ jumps → Step p ended s e t →
    left_to_do w methods jumps' t < left_to_do w methods jumps s
smaller p ended w methods jumps jumps' s t e big low few fits used step = go (normal p ended s e t step)
  where
    go : Normal p ended s e t → left_to_do w methods jumps' t < left_to_do w methods jumps s
    go n = subst (λ (x : List Activation). left_to_do w methods jumps' t < left_to_do w methods jumps x) (sym n.stands)
        (smaller_outcome p n.method.frame.monitor (doing_of ended n.instr n.names) n.instr w methods jumps jumps' n.top n.callers e t big (subst (IsBelow (w - 1)) n.stands low) (subst (λ (x : List Activation). length x ≤ methods) n.stands few) fits used n.outcome)
