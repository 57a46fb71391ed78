-- Parts one after another: what they take, and why they are refused.
use Rattle.std.proofs.Common.{◌≡◌, ◌++◌, ◌∙◌, ap, subst, sym, ℕ, List, [], Option, Some, None, append_assoc}
use Rattle.std.specs.Option.{IfSome, option_map}
use Rattle.sources.specs.Leaving.{Takes}
use Rattle.token_reader.specs.declared.bytes.ReadRefusal.{ReadRefusal}
use Rattle.token_reader.specs.declared.bytes.ReadRefusal.TheVariants.{Long as TooLong, Failed, Memory as NoRoom}
use Rattle.refutation_items.specs.declared.refusal.LineRefusal.{LineRefusal}
use Rattle.refutation_items.specs.declared.refusal.LineRefusal.TheVariants.{Wrong, Unread}
use Rattle.refutation_items.specs.declared.refusal.Reason.{Reason}
use Rattle.refutation_items.specs.Refusals.{at_line, IsNotRefutedFor, IsRefusedFor}

-- one part and then another
pub takes-then : (a b c : Option (List ℕ)) (x y : List ℕ) → Takes a b x → Takes b c y → Takes a c (x ++ y)
takes-then a b None x y first second = first ∙ ap (option_map (λ rest. x ++ rest)) second
takes-then a b (Some left) x y first second =
    first ∙ ap (option_map (λ rest. x ++ rest)) second ∙ ap Some (sym (append_assoc x y left))

pub takes-nothing : (a b : Option (List ℕ)) → b ≡ a → Takes a b []
takes-nothing a None same = sym same
takes-nothing a (Some left) same = sym same

-- what is taken is known by another name
pub takes-as : (a b : Option (List ℕ)) (x y : List ℕ) → x ≡ y → Takes a b x → Takes a b y
takes-as a b x y same takes = subst (λ (bytes : List ℕ). Takes a b bytes) same takes

-- what is told before a part is what it took and what is told behind it
pub told-behind : (a b : Option (List ℕ)) (x : List ℕ) (P Q : List ℕ → Type 0) → Takes a b x → ((bytes : List ℕ) → P bytes → Q (x ++ bytes))
    → IfSome b P → IfSome a Q
told-behind a None x P Q takes means told = subst (λ (left : Option (List ℕ)). IfSome left Q) (sym takes) told
told-behind a (Some bytes) x P Q takes means told = subst (λ (left : Option (List ℕ)). IfSome left Q) (sym takes) (means bytes told)

-- a part is refused behind one that was taken
pub refused-behind : (inner outer : ReadRefusal → Type 0) (a b : Option (List ℕ)) (x : List ℕ) (F G : List ℕ → Reason → Type 0) (refusal : LineRefusal)
    → Takes a b x → ((read : ReadRefusal) → inner read → outer read) → ((bytes : List ℕ) (reason : Reason) → F bytes reason → G (x ++ bytes) reason)
    → IsRefusedFor inner b F refusal → IsRefusedFor outer a G refusal
refused-behind inner outer a b x F G (Wrong reason) takes causes means refused =
    told-behind a b x (λ bytes. F bytes reason) (λ bytes. G bytes reason) takes (λ bytes is. means bytes reason is) refused
refused-behind inner outer a b x F G (Unread read) takes causes means refused = causes read refused

-- a first part is refused
pub refused-first : (inner outer : ReadRefusal → Type 0) (a : Option (List ℕ)) (F G : List ℕ → Reason → Type 0) (refusal : LineRefusal)
    → ((read : ReadRefusal) → inner read → outer read) → ((bytes : List ℕ) (reason : Reason) → F bytes reason → G bytes reason)
    → IsRefusedFor inner a F refusal → IsRefusedFor outer a G refusal
refused-first inner outer None F G (Wrong reason) causes means refused = refused
refused-first inner outer (Some bytes) F G (Wrong reason) causes means refused = means bytes reason refused
refused-first inner outer a F G (Unread read) causes means refused = causes read refused

-- what was taken begins what was told
pub told-taken : (a b : Option (List ℕ)) (x : List ℕ) (Q : List ℕ → Type 0) → Takes a b x → ((bytes : List ℕ) → Q (x ++ bytes)) → IfSome a Q
told-taken a None x Q takes means = subst (λ (left : Option (List ℕ)). IfSome left Q) (sym takes) tt
told-taken a (Some bytes) x Q takes means = subst (λ (left : Option (List ℕ)). IfSome left Q) (sym takes) (means bytes)

-- the refusal of a line is that of the text
pub not-refuted : (causes : ReadRefusal → Type 0) (left : Option (List ℕ)) (F : List ℕ → Reason → Type 0) (G : List ℕ → ℕ → Reason → Type 0) (line : ℕ)
    (refusal : LineRefusal) → ((bytes : List ℕ) (reason : Reason) → F bytes reason → G bytes line reason)
    → IsRefusedFor causes left F refusal → IsNotRefutedFor causes left G (at_line refusal line)
not-refuted causes None F G line (Wrong reason) means refused = refused
not-refuted causes (Some bytes) F G line (Wrong reason) means refused = means bytes reason refused
not-refuted causes left F G line (Unread TooLong) means refused = refused
not-refuted causes left F G line (Unread Failed) means refused = refused
not-refuted causes left F G line (Unread NoRoom) means refused = refused

-- what holds of all bytes holds of those that are told
pub told-all : (left : Option (List ℕ)) (Q : List ℕ → Type 0) → ((bytes : List ℕ) → Q bytes) → IfSome left Q
told-all None Q all = tt
told-all (Some bytes) Q all = all bytes
