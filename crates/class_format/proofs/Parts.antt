-- The parts of a class file: what is read is spelled so and is valid, and what is valid and spelled so is read.
use Rattle.std.proofs.Common.{ℕ, Bool, List, refl, subst}
use Rattle.std.specs.Prelude.{IsTrue}
use Rattle.class_format.specs.declared.record.PoolEntry.{PoolEntry}
use Rattle.class_format.specs.declared.record.Handler.{Handler}
use Rattle.class_format.specs.ClassText.{u2, IsU2, handler_text, IsHandler}
use Rattle.class_format.specs.Input.{wrong_index, Input}
use Rattle.class_format.specs.Reading.{handler_from, index_from}
use Rattle.class_format.proofs.Fields.{IsBytes, Spells, Spells-then, Spells-split, Reads, steps, demanded, ok_is, u2_reads}

pub handler_reads : Reads handler_from handler_text IsHandler
unfolding handler_from
handler_reads = record {
  takes = λ i x j fits e.
      let a = steps u2_reads _ i (x, j) fits e in
      let b = steps u2_reads _ a.rest (x, j) a.bytes a.goes in
      let c = steps u2_reads _ b.rest (x, j) b.bytes b.goes in
      let d = steps u2_reads _ c.rest (x, j) c.bytes c.goes in
      let made : Handler × Input = (record { start = a.item; end = b.item; target = c.item; catch = d.item }, d.rest) in
      subst (λ (y : Handler × Input). Spells i (handler_text y.0) y.1 × IsBytes y.1.bytes × IsHandler y.0) (ok_is made (x, j) d.goes)
      (Spells-then _ _ _ _ _ (Spells-then _ _ _ _ _ (Spells-then _ _ _ _ _ a.spells b.spells) c.spells) d.spells, d.bytes, record { start = a.fits; end = b.fits; target = c.fits; catch = d.fits });
  again = λ i x j s fits.
      let c = Spells-split _ _ _ _ s in
      let b = Spells-split _ _ _ _ c.first in
      let a = Spells-split _ _ _ _ b.first in
      rw (u2_reads.again _ _ _ a.first fits.start, u2_reads.again _ _ _ a.second fits.end, u2_reads.again _ _ _ b.second fits.target, u2_reads.again _ _ _ c.second fits.catch) refl;
}

-- an index that names what it has to
pub index_reads : (names : List PoolEntry → ℕ → Bool) (pool : List PoolEntry) → Reads (index_from names pool) u2 (λ n. IsU2 n × IsTrue (names pool n))
unfolding index_from
index_reads names pool = record {
  takes = λ i x j fits e.
      let a = steps u2_reads _ i (x, j) fits e in
      let b = demanded (names pool a.item) wrong_index i.place _ (x, j) a.goes in
      subst (λ (y : ℕ × Input). Spells i (u2 y.0) y.1 × IsBytes y.1.bytes × (IsU2 y.0 × IsTrue (names pool y.0))) (ok_is (a.item, a.rest) (x, j) b.1) (a.spells, a.bytes, (a.fits, b.0));
  again = λ i x j s fits. rw (u2_reads.again i x j s fits.0, fits.1) refl;
}
