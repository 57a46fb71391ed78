-- One more class.
use Rattle.std.proofs.Common.{◌≡◌, ◌++◌, [], ◌∷◌, ℕ, length, get_or, ap, sym, subst, arith, length-append}
use Rattle.class_format.specs.ClassText.{ClassText}
use Rattle.class_files.specs.SoFar.{AreClassesOf}
use Rattle.class_files.proofs.Classes.{one_more}
use Rattle.class_files.proofs.class_reader.classes_of.Goals as goal

pub loop-file-preserved : goal.loop-file-preserved
loop-file-preserved c =
    let many = c.loop-file.invariant.many in
    let pushed : c.add_class.new.classes ≡ c.loop-file.classes ++ c.in_ok-class.class ∷ [] = c.in_ok-add_class.ensures.ok in
    record {
      many = omega (arith, many, ap length pushed, length-append c.loop-file.classes (c.in_ok-class.class ∷ []));
      texts = subst (AreClassesOf c.args.files.now) (sym pushed)
          (one_more c.args.files.now c.loop-file.classes c.file-item.result (omega (arith, many))
          (subst (λ (place : ℕ). c.file-item.result ≡ get_or c.args.files.now place c.file-item.result) (sym many) c.file-item.is)
          c.loop-file.invariant.texts c.in_ok-class.class (subst (ClassText c.in_ok-class.class) c.as_slice.ensures c.in_ok-class.ensures.class));
    }
