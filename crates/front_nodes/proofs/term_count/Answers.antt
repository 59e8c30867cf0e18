-- `front_nodes::term_count`: one term of kind 21, else the argument says it.
use mathlib.Core.Path.{sym, ◌∙◌}
use Rattle.front_words.specs.NodeWord.{node_kind_of, arg_of}
use Rattle.front_nodes.proofs.ReaderExits.{count-open, count-plain}
use Rattle.front_nodes.proofs.term_count.Goals as goal

pub returns-then-kind-eq-KIND_OPEN : goal.returns-then-kind-eq-KIND_OPEN
returns-then-kind-eq-KIND_OPEN c = let w = c.args.w in count-open (node_kind_of w) (arg_of w) (sym c.kind.ensures ∙ c.if-kind-eq-KIND_OPEN.true)

pub returns : goal.returns
returns c = let w = c.args.w in c.arg.ensures ∙ count-plain (node_kind_of w) (arg_of w) (λ e. c.if-kind-eq-KIND_OPEN.false (c.kind.ensures ∙ e))
