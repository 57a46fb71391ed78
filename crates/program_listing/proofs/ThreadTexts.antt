-- The lines of threads, one after another.
use Rattle.std.proofs.Common.{◌≡◌, ◌+◌, ◌++◌, ◌∙◌, ap, sym, ℕ, zero, suc, List, [], ◌∷◌, Option, Some, Result, take, drop, slice_get, arith, add-one, append_assoc}
use Rattle.std.proofs.lemmas.List.{append-nil}
use Rattle.std.proofs.lemmas.Option.{none-some, same_Some}
use Rattle.std.specs.Result.{IsErr}
use Rattle.class_format.specs.declared.record.ClassRecord.{ClassRecord}
use Rattle.program.specs.declared.method.MethodId.{MethodId}
use Rattle.ports.specs.Growth.{Grows, GrowsByPrefix, PutsAll}
use Rattle.ports.proofs.GrowthLaws.{grows-then, prefix-of_more, prefix-then}
use Rattle.sequence_text.proofs.TextLaws.{puts-failed}
use Rattle.program_listing.specs.ListingText.{thread_line, threads_text}

-- the threads up to one, and that one
threads-up_to : (classes : List ClassRecord) (first thread i : ℕ) (entries : List MethodId) (entry : MethodId) → thread ≡ first + i
    → slice_get entries i ≡ Some entry
    → threads_text classes first (take (suc i) entries) ≡ threads_text classes first (take i entries) ++ thread_line classes thread entry
threads-up_to classes first thread i [] entry is at = absurd (none-some entry at)
threads-up_to classes first thread zero (e ∷ es) entry is at =
    let here : first ≡ thread = omega arith in
    append-nil (thread_line classes first e)
    ∙ ap (λ (x : MethodId). thread_line classes first x) (same_Some e entry at)
    ∙ ap (λ (n : ℕ). thread_line classes n entry) here
threads-up_to classes first thread (suc i) (e ∷ es) entry is at =
    ap (λ (rest : List ℕ). thread_line classes first e ++ rest)
    (threads-up_to classes (suc first) thread i es entry (omega arith) at)
    ∙ sym (append_assoc (thread_line classes first e) (threads_text classes (suc first) (take i es)) (thread_line classes thread entry))

-- the threads up to one, that one, and those behind it
threads-around : (classes : List ClassRecord) (first thread i : ℕ) (entries : List MethodId) (entry : MethodId) → thread ≡ first + i
    → slice_get entries i ≡ Some entry
    → threads_text classes first entries
    ≡ threads_text classes first (take i entries) ++ thread_line classes thread entry
    ++ threads_text classes (suc thread) (drop (suc i) entries)
threads-around classes first thread i [] entry is at = absurd (none-some entry at)
threads-around classes first thread zero (e ∷ es) entry is at =
    let here : first ≡ thread = omega arith in
    ap (λ (x : MethodId). thread_line classes first x ++ threads_text classes (suc first) es) (same_Some e entry at)
    ∙ ap (λ (n : ℕ). thread_line classes n entry ++ threads_text classes (suc n) es) here
threads-around classes first thread (suc i) (e ∷ es) entry is at =
    let line : List ℕ = thread_line classes first e in
    let before : List ℕ = threads_text classes (suc first) (take i es) in
    let here : List ℕ = thread_line classes thread entry in
    let behind : List ℕ = threads_text classes (suc thread) (drop (suc i) es) in
    ap (λ (rest : List ℕ). line ++ rest) (threads-around classes (suc first) thread i es entry (omega arith) at)
    ∙ sym (append_assoc line (before ++ here) behind)
    ∙ ap (λ (front : List ℕ). front ++ behind) (sym (append_assoc line before here))

-- the lines up to a thread, and that of the thread
pub threads-with : (classes : List ClassRecord) (entries : List MethodId) (thread : ℕ) (entry : MethodId) (a b c : Option (List ℕ))
    → slice_get entries thread ≡ Some entry → Grows a b (threads_text classes 0 (take thread entries))
    → Grows b c (thread_line classes thread entry) → Grows a c (threads_text classes 0 (take (thread + 1) entries))
threads-with classes entries thread entry a b c at before here =
    rw (add-one thread, threads-up_to classes 0 thread thread entries entry (omega arith) at)
    (grows-then a b c (threads_text classes 0 (take thread entries)) (thread_line classes thread entry) before here)

-- the lines up to a thread were put, and then a prefix of that of the thread
pub threads-failed : {A E : Type 0} (classes : List ClassRecord) (entries : List MethodId) (thread : ℕ) (entry : MethodId)
    (a b c : Option (List ℕ)) (result : Result A E) → slice_get entries thread ≡ Some entry → IsErr result
    → Grows a b (threads_text classes 0 (take thread entries)) → GrowsByPrefix b c (thread_line classes thread entry)
    → PutsAll a c result (threads_text classes 0 entries)
threads-failed classes entries thread entry a b c result at failed before part =
    let so_far : List ℕ = threads_text classes 0 (take thread entries) in
    let here : List ℕ = thread_line classes thread entry in
    puts-failed a c (threads_text classes 0 entries) result failed
    (rw (threads-around classes 0 thread thread entries entry (omega arith) at)
    (prefix-of_more a c (so_far ++ here) (threads_text classes (suc thread) (drop (suc thread) entries))
    (prefix-then a b c so_far here before part)))
