-- one turn, by what its calls did
use Rattle.std.proofs.Common.{arith, ◌-◌, refl}
use Rattle.std.specs.Vec.{with_item}
use Rattle.std.proofs.lemmas.Result.{on_ok_weaker}
use Rattle.conley_digraph.proofs.TurnLemmas.{on_stack, some_bound, all_nodes, last_node, in_turns, wants, in_row, in_stages, pass_turned, leave_turned}
use Rattle.conley_digraph.proofs.search.Search.turn.Goals as goal

pub index-requires : goal.index-requires
index-requires c = omega (
  arith,
  on_stack c.args.steps.now c.args.self.now c.requires.search c.requires.path c.len.result c.index-place.result.now
      c.len.ensures c.index-place.ensures,
  c.args.self.now.stack.ok.0,
)

pub index-requires-2 : goal.index-requires-2
index-requires-2 c = in_turns c.args.steps.now c.args.self.now c.requires.search c.requires.path c.len.result c.index-place.result.now c.len.ensures
    c.index-place.ensures c.index.result.now c.index.ensures

pub overflow_sub-turns : goal.overflow_sub-turns
overflow_sub-turns c =
    let some = wants c.args.steps.now c.args.self.now c.requires.search c.requires.path c.len.result c.index-place.result.now c.len.ensures
    c.index-place.ensures c.index.result.now c.index.ensures c.index-2.result.now c.index-2.ensures in
    omega (arith, some)

pub index_mut-requires : goal.index_mut-requires
index_mut-requires c = in_turns c.args.steps.now c.args.self.now c.requires.search c.requires.path c.len.result c.index-place.result.now c.len.ensures
    c.index-place.ensures c.index.result.now c.index.ensures

pub bounds-steps-x : goal.bounds-steps-x
bounds-steps-x c = last_node c.args.steps.now c.args.self.now c.requires.search c.requires.path c.len.result c.index-place.result.now c.len.ensures
    c.index-place.ensures c.index.result.now c.index.ensures

pub index-requires-then-turns-gt0 : goal.index-requires-then-turns-gt0
index-requires-then-turns-gt0 c =
    in_row c.args.steps.now c.args.self.now c.requires.search c.requires.path c.len.result c.index-place.result.now c.len.ensures c.index-place.ensures
    c.index.result.now c.index.ensures c.index-2.result.now c.index-2.ensures
    c.if-turns-gt0.true c.index-steps-x.result c.index-steps-x.is

pub pass-requires-clause-node : goal.pass-requires-clause-node
pass-requires-clause-node c =
    in_stages c.args.steps.now c.args.self.now c.requires.search c.requires.path c.len.result c.index-place.result.now c.len.ensures c.index-place.ensures
    c.index.result.now c.index.ensures c.index-2.result.now c.index-2.ensures
    c.if-turns-gt0.true c.index-steps-x.result c.index-steps-x.is c.index-then-turns-gt0.result.now c.index-then-turns-gt0.ensures c.requires.digraph

pub returns-then-turns-gt0 : goal.returns-then-turns-gt0
returns-then-turns-gt0 c =
    on_ok_weaker c.pass.result
    (pass_turned c.args.steps.now c.args.self.now c.requires.search c.requires.path c.len.result c.index-place.result.now c.len.ensures c.index-place.ensures
    c.index.result.now c.index.ensures c.index-2.result.now c.index-2.ensures
    c.if-turns-gt0.true c.index-steps-x.result c.index-steps-x.is c.index-then-turns-gt0.result.now c.index-then-turns-gt0.ensures c.requires.digraph
    c.pass.new.self (with_item c.args.self.now.turns c.index.result.now (c.index-2.result.now - 1)) refl)
    c.pass.ensures

pub leave-requires-clause-place : goal.leave-requires-clause-place
leave-requires-clause-place c = on_stack c.args.steps.now c.args.self.now c.requires.search c.requires.path c.len.result c.index-place.result.now c.len.ensures
    c.index-place.ensures

pub leave-requires-clause-bounds : goal.leave-requires-clause-bounds
leave-requires-clause-bounds c = some_bound c.args.steps.now c.args.self.now c.requires.search c.requires.path c.len.result c.index-place.result.now
    c.len.ensures c.index-place.ensures

pub leave-requires-clause-nodes : goal.leave-requires-clause-nodes
leave-requires-clause-nodes c = all_nodes c.args.steps.now c.args.self.now c.requires.search c.requires.path c.len.result c.index-place.result.now
    c.len.ensures c.index-place.ensures

pub returns : goal.returns
returns c =
    on_ok_weaker c.leave.result
    (leave_turned c.args.steps.now c.args.self.now c.requires.search c.requires.path c.len.result c.index-place.result.now c.len.ensures c.index-place.ensures
    c.index.result.now c.index.ensures c.index-2.result.now c.index-2.ensures
    c.if-turns-gt0.false c.leave.new.self (with_item c.args.self.now.turns c.index.result.now (c.index-2.result.now - 1)) refl)
    c.leave.ensures
