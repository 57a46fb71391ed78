use Rattle.std.proofs.Common.{◌≡◌, ap, ℕ, List, length, Option, refl, subst}
use Rattle.std.specs.List.{flat_map}
use Rattle.ports.specs.Growth.{Grows, GrowsByPrefix}
use Rattle.sequence_text.proofs.TextLaws.{first-failed, grows-as, part-as, puts-four, second-failed, third-failed}
use Rattle.program_listing.specs.ListingText.{counts_line, monitor_line, threads_text, variable_line}
use Rattle.program_listing.proofs.listing.put_declarations.Goals as goal

counts-same : (t t' v v' m m' : ℕ) → t ≡ t' → v ≡ v' → m ≡ m' → counts_line t v m ≡ counts_line t' v' m'
counts-same t t' v v' m m' threads variables monitors = rw (threads, variables, monitors) refl

counts-grow : (a b : Option (List ℕ)) (t t' v v' m m' : ℕ) → t ≡ t' → v ≡ v' → m ≡ m' → Grows a b (counts_line t v m)
    → Grows a b (counts_line t' v' m')
counts-grow a b t t' v v' m m' threads variables monitors whole =
    subst (λ (text : List ℕ). Grows a b text) (counts-same t t' v v' m m' threads variables monitors) whole

counts-part : (a b : Option (List ℕ)) (t t' v v' m m' : ℕ) → t ≡ t' → v ≡ v' → m ≡ m' → GrowsByPrefix a b (counts_line t v m)
    → GrowsByPrefix a b (counts_line t' v' m')
counts-part a b t t' v v' m m' threads variables monitors part =
    subst (λ (text : List ℕ). GrowsByPrefix a b text) (counts-same t t' v v' m m' threads variables monitors) part

pub returns-in_err-put_counts-clause-bytes : goal.returns-in_err-put_counts-clause-bytes
returns-in_err-put_counts-clause-bytes g c =
    first-failed _ _ (counts_line (length c.args.program.now.threads) (length c.args.program.now.variables) (length c.args.program.now.monitors))
    (flat_map variable_line c.args.program.now.variables) (flat_map monitor_line c.args.program.now.monitors)
    (threads_text c.args.classes.now 0 c.args.program.now.threads) _
    c.from_residual.ensures.0 (counts-part _ _ _ _ _ _ _ _ c.threads.ensures (ap length c.variables.ensures.value) (ap length c.monitors.ensures)
    c.in_err-put_counts.ensures.bytes)

pub returns-in_err-put_variables-clause-bytes : goal.returns-in_err-put_variables-clause-bytes
returns-in_err-put_variables-clause-bytes g c =
    second-failed _ _ _ (counts_line (length c.args.program.now.threads) (length c.args.program.now.variables) (length c.args.program.now.monitors))
    (flat_map variable_line c.args.program.now.variables) (flat_map monitor_line c.args.program.now.monitors)
    (threads_text c.args.classes.now 0 c.args.program.now.threads) _
    c.from_residual-in_err-put_variables.ensures.0 (counts-grow _ _ _ _ _ _ _ _ c.threads.ensures (ap length c.variables.ensures.value) (ap length c.monitors.ensures)
    c.in_ok-put_counts.ensures.bytes)
    (part-as variable_line _ _ c.variables-2.ensures.value _ _ c.in_err-put_variables.ensures.bytes)

pub returns-in_err-put_monitors-clause-bytes : goal.returns-in_err-put_monitors-clause-bytes
returns-in_err-put_monitors-clause-bytes g c =
    third-failed _ _ _ _ (counts_line (length c.args.program.now.threads) (length c.args.program.now.variables) (length c.args.program.now.monitors))
    (flat_map variable_line c.args.program.now.variables) (flat_map monitor_line c.args.program.now.monitors)
    (threads_text c.args.classes.now 0 c.args.program.now.threads) _
    c.from_residual-in_err-put_monitors.ensures.0 (counts-grow _ _ _ _ _ _ _ _ c.threads.ensures (ap length c.variables.ensures.value) (ap length c.monitors.ensures)
    c.in_ok-put_counts.ensures.bytes)
    (grows-as variable_line _ _ c.variables-2.ensures.value _ _ c.in_ok-put_variables.ensures.bytes)
    (part-as monitor_line _ _ c.monitors-2.ensures _ _ c.in_err-put_monitors.ensures.bytes)

pub returns-clause-bytes : goal.returns-clause-bytes
returns-clause-bytes g c =
    puts-four _ _ _ _ _ (counts_line (length c.args.program.now.threads) (length c.args.program.now.variables) (length c.args.program.now.monitors))
    (flat_map variable_line c.args.program.now.variables) (flat_map monitor_line c.args.program.now.monitors)
    (threads_text c.args.classes.now 0 c.args.program.now.threads) _
    (counts-grow _ _ _ _ _ _ _ _ c.threads.ensures (ap length c.variables.ensures.value) (ap length c.monitors.ensures)
    c.in_ok-put_counts.ensures.bytes)
    (grows-as variable_line _ _ c.variables-2.ensures.value _ _ c.in_ok-put_variables.ensures.bytes)
    (grows-as monitor_line _ _ c.monitors-2.ensures _ _ c.in_ok-put_monitors.ensures.bytes)
    c.put_threads.ensures.bytes
