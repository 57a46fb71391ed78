-- The classes so far.
use Rattle.std.proofs.Common.{◌≡◌, ◌<◌, ◌++◌, ◌⊎◌, ℕ, List, [], ◌∷◌, Some, length, get_or, slice_get, refl, sym, ◌∙◌, ap, subst, inl, inr}
use Rattle.std.proofs.lemmas.Option.{same_Some, slice_get_read}
use Rattle.program.proofs.Lists.{pushed}
use Rattle.class_format.specs.ClassText.{ClassText}
use Rattle.class_format.specs.declared.record.ClassRecord.{ClassRecord}
use Rattle.class_files.specs.SoFar.{AreClassesOf}

module _ (files : List (List ℕ)) (classes : List ClassRecord) (bytes : List ℕ) (within : length classes < length files)
    (at : bytes ≡ get_or files (length classes) bytes) (texts : AreClassesOf files classes) where
  there : slice_get files (length classes) ≡ Some bytes
  there = slice_get_read files (length files) (length classes) bytes refl within at

  text_so_far : (class : ClassRecord) → ClassText class bytes → (k : ℕ) (c : ClassRecord) (b : List ℕ) →
      (slice_get classes k ≡ Some c) ⊎ ((k ≡ length classes) × (class ≡ c)) → slice_get files k ≡ Some b → ClassText c b
  text_so_far class text k c b (inl early) b_there = texts k c b early b_there
  text_so_far class text k c b (inr last) b_there =
      let same : bytes ≡ b = same_Some bytes b (sym there ∙ ap (slice_get files) (sym last.0) ∙ b_there) in
      subst (λ (x : ClassRecord). ClassText x b) last.1 (subst (ClassText class) same text)

  -- one more class
  pub one_more : (class : ClassRecord) → ClassText class bytes → AreClassesOf files (classes ++ class ∷ [])
  one_more class text = λ k c b c_there b_there. text_so_far class text k c b (pushed classes class c k c_there) b_there
