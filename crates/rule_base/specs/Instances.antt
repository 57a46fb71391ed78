-- All instances of a table in order, and those that are left.
use Rattle.std.specs.Prelude.{◌≡◌, ◌≤◌, Option, Some, None, Bool, ◌&&◌, nat_lt, IsTrue, ◌+◌, ◌-◌, ℕ, zero, suc, List, [], ◌∷◌, ◌++◌, length, map, slice_get}
use Rattle.std.specs.List.{flat_map}
use Rattle.rule_base.specs.declared.question.Question.{Question}
use Rattle.rule_base.specs.declared.letter.Letter.{Letter}
use Rattle.rule_base.specs.declared.instances.Instance.{Instance}
use Rattle.rule_base.specs.Domains.{passing, domain}
use Rattle.rule_base.specs.Rules.{all_args, are_args}
use Rattle.rule_base.specs.Tables.{letters_of}

-- the rows of a table
abbrev pub Rows : Type 0
Rows = List (List Letter)

abbrev pub instance : ℕ → List ℕ → Instance
instance place choices = record { place = place; choices = choices }

-- whether these are arguments of the rule at a place of the table
abbrev pub is_instance : Question → Rows → ℕ → List ℕ → Bool
is_instance q rows place args = nat_lt place (length rows) && are_args q (letters_of rows place) [] args

abbrev pub IsInstance : Question → Rows → ℕ → List ℕ → Type 0
IsInstance q rows place args = IsTrue (is_instance q rows place args)

-- so many rules' instances from a place of the table on
unfoldable pub instances_from : Question → Rows → ℕ → ℕ → List Instance
instances_from q rows place zero = []
instances_from q rows place (suc n) =
    map (instance place) (all_args q (letters_of rows place) []) ++ instances_from q rows (place + 1) n

-- the instances of all rules of the table
unfoldable pub all_instances : Question → Rows → List Instance
all_instances q rows = instances_from q rows 0 (length rows)

-- the lists of arguments that are left, where the arguments in todo are chosen and a number is the next choice
abbrev pub args_left : Question → List Letter → List ℕ → List ℕ → ℕ → List (List ℕ)
args_left q [] before todo next = []
args_left q (letter ∷ letters) before [] next =
    flat_map (λ x. all_args q letters (before ++ x ∷ []))
    (passing (domain q letter before).fits next ((domain q letter before).size - next))
args_left q (letter ∷ letters) before (a ∷ todo) next =
    args_left q letters (before ++ a ∷ []) todo next
    ++ flat_map (λ x. all_args q letters (before ++ x ∷ []))
    (passing (domain q letter before).fits (a + 1) ((domain q letter before).size - (a + 1)))

-- the instances that are left
unfoldable pub instances_left : Question → Rows → ℕ → List ℕ → ℕ → List Instance
instances_left q rows place chosen next =
    map (instance place) (args_left q (letters_of rows place) [] chosen next)
    ++ instances_from q rows (place + 1) (length rows - (place + 1))

-- ---- how many steps are left at most

abbrev pub costs : (ℕ → ℕ) → ℕ → ℕ → ℕ
costs cost from zero = 0
costs cost from (suc n) = cost from + costs cost (from + 1) n

abbrev pub cost_after : Question → List Letter → List ℕ → ℕ
cost_after q [] before = 0
cost_after q (letter ∷ letters) before =
    suc (costs (λ x. 2 + cost_after q letters (before ++ x ∷ [])) 0 (domain q letter before).size)

abbrev pub args_work : Question → List Letter → List ℕ → List ℕ → ℕ → ℕ
args_work q [] before todo next = suc (length todo)
args_work q (letter ∷ letters) before [] next =
    suc (costs (λ x. 2 + cost_after q letters (before ++ x ∷ [])) next ((domain q letter before).size - next))
args_work q (letter ∷ letters) before (a ∷ todo) next =
    args_work q letters (before ++ a ∷ []) todo next
    + suc (costs (λ x. 2 + cost_after q letters (before ++ x ∷ [])) (a + 1) ((domain q letter before).size - (a + 1)))

abbrev pub work_from : Question → Rows → ℕ → ℕ → ℕ
work_from q rows place zero = 0
work_from q rows place (suc n) =
    suc (args_work q (letters_of rows place) [] [] 0) + work_from q rows (place + 1) n

unfoldable pub work_left : Question → Rows → ℕ → List ℕ → ℕ → ℕ
work_left q rows place chosen next =
    args_work q (letters_of rows place) [] chosen next + work_from q rows (place + 1) (length rows - (place + 1))
    + (length rows - place)

-- the letter of the next choice takes no number from this one on, or there is none
abbrev pub IsSpent : Question → Rows → ℕ → List ℕ → ℕ → Type 0
IsSpent q rows place chosen next =
    (l : Letter) → slice_get (letters_of rows place) (length chosen) ≡ Some l → (domain q l chosen).size ≤ next

-- the first of what was left was given, or none was
abbrev pub GivesOf : List Instance → Option Instance → List Instance → Type 0
GivesOf old None new = old ≡ new
GivesOf old (Some x) new = old ≡ x ∷ new
