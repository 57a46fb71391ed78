use Rattle.std.proofs.Common.{ap, arith, length, length-append}
use Rattle.std.specs.List.{flat_map}
use Rattle.class_format.specs.ClassText.{entry_text}
use Rattle.class_format.proofs.Entries.{are_bytes}
use Rattle.class_format.proofs.PoolTexts.{pool_reads}
use Rattle.class_format.proofs.pool_reader.read_pool.Goals as goal

-- the entries were read from the bytes that were left
pub check_entries-requires : goal.check_entries-requires
check_entries-requires c =
    let input = c.args.reader.now in
    let after = c.entries.new.reader in
    let pool = c.in_ok-pool.pool in
    let read = (pool_reads c.args.count).takes input pool after (are_bytes input.bytes c.place-start.ensures.bytes) c.in_ok-pool.ensures in
    let text = flat_map entry_text pool in
    rw c.as_slice.ensures (omega (arith, c.place-start.ensures.value, c.place-start.ensures.small, ap length read.0.bytes, length-append text after.bytes))
