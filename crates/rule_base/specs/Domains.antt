-- What the letters of a table range over.
use Rattle.std.specs.Prelude.{◌<◌, ◌+◌, ℕ, zero, suc, Bool, true, ◌&&◌, not, nat_le, nat_lt, cond, is_some, IsTrue, List, [], ◌∷◌, length, slice_index}
use Rattle.program_graph.specs.declared.graph.Graph.{Graph}
use Rattle.rule_base.specs.declared.question.Question.{Question}
use Rattle.rule_base.specs.declared.letter.Letter.{Letter}
use Rattle.rule_base.specs.declared.letter.Letter.TheVariants.{Copy, Node, NodeNotBegin, NodeNotEnd, BeginOfThread, BeginOf, Edge, EdgeBeside, EdgeFrom, EdgeTo, LaterThread, StartOf, Bit, Sign, JumpEdge, IntSlotTo, InnerBitOf, InnerRow, GatedNode, ResultRow, ResultNode, HighBit, Unused}
use Rattle.rule_base.specs.Nodes.{is_begin, is_end, is_begin_of, is_start_of, has_nodes, is_from, is_to, is_beside, to_of}
use Rattle.rule_base.specs.Instructions.{above_all, has_result, inner_bits_of, inner_gate_of, int_slots_of, is_gated, is_int_slot, is_jump, result_gate_of, rows_of}

-- the numbers below a size that pass a test
pub record Domain : Type 0 where
  pub size : ℕ
  pub fits : ℕ → Bool

abbrev pub IsIn : Domain → ℕ → Type 0
IsIn d x = (x < d.size) × IsTrue (d.fits x)

-- those from a number on, so many of them
abbrev pub passing : (ℕ → Bool) → ℕ → ℕ → List ℕ
passing fits from zero = []
passing fits from (suc n) = cond (fits from) (from ∷ passing fits (from + 1) n) (passing fits (from + 1) n)

abbrev pub members : Domain → List ℕ
members d = passing d.fits 0 d.size

abbrev pub below : ℕ → Domain
below n = record { size = n; fits = λ _. true }

abbrev pub nodes : Graph → (ℕ → Bool) → Domain
nodes g test = record { size = length g.details; fits = test }

abbrev pub edges : Graph → (ℕ → Bool) → Domain
edges g test = record { size = length g.edges; fits = test }

-- what a letter ranges over, after these arguments; a thread has a number below that of the nodes
abbrev pub domain : Question → Letter → List ℕ → Domain
domain q Copy args = below (q.steps + 1)
domain q Node args = nodes q.graph.now (λ _. true)
domain q NodeNotBegin args = nodes q.graph.now (λ n. not (is_begin q.graph.now n))
domain q NodeNotEnd args = nodes q.graph.now (λ n. not (is_end q.graph.now n))
domain q (BeginOfThread thread) args = nodes q.graph.now (is_begin_of q.graph.now thread)
domain q (BeginOf i) args = nodes q.graph.now (is_begin_of q.graph.now (slice_index args i))
domain q Edge args = edges q.graph.now (λ _. true)
domain q (EdgeBeside i) args =
    edges q.graph.now (λ e. nat_lt (slice_index args i) e && is_beside q.graph.now (slice_index args i) e)
domain q (EdgeFrom i) args = edges q.graph.now (is_from q.graph.now (slice_index args i))
domain q (EdgeTo i) args = edges q.graph.now (is_to q.graph.now (slice_index args i))
domain q LaterThread args = nodes q.graph.now (λ t. nat_lt 0 t && has_nodes q.graph.now t)
domain q (StartOf i) args = nodes q.graph.now (is_start_of q.graph.now (slice_index args i))
domain q Bit args = below 32
domain q Sign args = below 2
domain q JumpEdge args = edges q.graph.now (is_jump q.graph.now)
domain q (IntSlotTo i) args =
    record {
      size = above_all (int_slots_of q.graph.now (to_of q.graph.now (slice_index args i)));
      fits = is_int_slot q.graph.now (to_of q.graph.now (slice_index args i));
    }
domain q (InnerBitOf i) args =
    record {
      size = inner_bits_of q.graph.now (slice_index args i);
      fits = λ j. is_some (inner_gate_of q.graph.now (slice_index args i) j);
    }
domain q (InnerRow i j) args = below (rows_of (inner_gate_of q.graph.now (slice_index args i) (slice_index args j)))
domain q GatedNode args = nodes q.graph.now (is_gated q.graph.now)
domain q (ResultRow i b) args = below (rows_of (result_gate_of q.graph.now (slice_index args i) (slice_index args b)))
domain q ResultNode args = nodes q.graph.now (has_result q.graph.now)
domain q HighBit args = record { size = 32; fits = λ b. nat_le q.graph.now.bounds.width b }
domain q Unused args = below 0
