use Rattle.std.proofs.Common.{◌∙◌, sym, subst, arith}
use Rattle.tm_blockmap.proofs.Counting.{stands_not}
use Rattle.tm_world.specs.Outside.{disk}
use Rattle.tm_world.specs.Log.{now}
use Rattle.tm_image.specs.Content.{IsAtRest}
use Rattle.tm_image.proofs.Formatting.{table_run, whole_run, first_rest, first_lies, first_turning, first_turned}
use Rattle.tm_image.proofs.Stopping.{gate_still, table_of, whole_of, rest_of, data_of}
use Rattle.tm_image.proofs.write.write_out.Goals as goal

pub returns-in_err-write_chain-clause-any_moment : goal.returns-in_err-write_chain-clause-any_moment
returns-in_err-write_chain-clause-any_moment g c told = λ old new rest beside writes.
    let in_range = c.args.gate.now.in_range in
    table_of old new _ in_range.0 in_range.1 beside c.args.side _ _ rest c.args.blocks.now _ _ writes (c.write_chain.ensures.any_moment told)

pub turn-requires-clause-gate : goal.turn-requires-clause-gate
turn-requires-clause-gate g c told =
    let in_range = c.args.gate.now.in_range in
    gate_still _ _ _ c.args.blocks.now in_range.0 in_range.1 c.requires.high (c.in_ok-write_chain.ensures.differs told) (c.requires.gate told)

pub returns-in_err-turn-clause-any_moment : goal.returns-in_err-turn-clause-any_moment
returns-in_err-turn-clause-any_moment g c told = λ old new rest beside writes.
    let in_range = c.args.gate.now.in_range in
    let w = c.in_ok-write_chain.ensures in
    whole_of old new _ in_range.0 in_range.1 beside c.args.side _ _ rest c.args.blocks.now _ _ writes c.requires.as_many (w.any_moment told) (w.differs told) (w.lies told) _ (c.turn.ensures.any_moment told)

pub returns-clause-any_moment : goal.returns-clause-any_moment
returns-clause-any_moment g c told = λ old new rest beside writes.
    let in_range = c.args.gate.now.in_range in
    let w = c.in_ok-write_chain.ensures in
    whole_of old new _ in_range.0 in_range.1 beside c.args.side _ _ rest c.args.blocks.now _ _ writes c.requires.as_many (w.any_moment told) (w.differs told) (w.lies told) _ (c.turn.ensures.any_moment told)

pub returns-clause-at_rest : goal.returns-clause-at_rest
returns-clause-at_rest g c told = λ old new rest beside writes.
    let in_range = c.args.gate.now.in_range in
    let w = c.in_ok-write_chain.ensures in
    rest_of old new _ in_range.0 in_range.1 beside c.args.side _ _ rest c.args.blocks.now _ _ writes c.requires.as_many (w.any_moment told) (w.differs told) (w.lies told) _ _ c.in_ok-turn.ensures.named (c.in_ok-turn.ensures.turned told)

pub returns-clause-data : goal.returns-clause-data
returns-clause-data g c told = λ old new rest beside writes.
    let in_range = c.args.gate.now.in_range in
    let w = c.in_ok-write_chain.ensures in
    data_of old new _ in_range.0 in_range.1 beside c.args.blocks.now _ _ writes _ _ _ rest (w.differs told) c.requires.as_many (w.lies told) (c.in_ok-turn.ensures.turned told)

pub returns-in_err-write_chain-clause-first_moment : goal.returns-in_err-write_chain-clause-first_moment
returns-in_err-write_chain-clause-first_moment g c told = λ new first lacks writes.
    let in_range = c.args.gate.now.in_range in
    table_run new _ in_range.0 in_range.1 c.args.blocks.now c.requires.high c.args.side _ _ (c.requires.gate told) lacks (c.write_chain.ensures.any_moment told)

pub returns-in_err-turn-clause-first_moment : goal.returns-in_err-turn-clause-first_moment
returns-in_err-turn-clause-first_moment g c told = λ new first lacks writes.
    let in_range = c.args.gate.now.in_range in
    let w = c.in_ok-write_chain.ensures in
    whole_run new _ in_range.0 in_range.1 c.args.blocks.now c.requires.high c.args.side _ _ (c.requires.gate told) lacks _ (w.any_moment told) (w.differs told) first
    (first_lies new _ _ _ writes (disk c.args.side (now (g.W.World.log c.write_chain.new.world))) c.requires.as_many (w.lies told)) (first_turning new _ _ _ writes c.args.side _ _ _ _ (c.turn.ensures.any_moment told))

pub returns-clause-first_moment : goal.returns-clause-first_moment
returns-clause-first_moment g c told = λ new first lacks writes.
    let in_range = c.args.gate.now.in_range in
    let w = c.in_ok-write_chain.ensures in
    whole_run new _ in_range.0 in_range.1 c.args.blocks.now c.requires.high c.args.side _ _ (c.requires.gate told) lacks _ (w.any_moment told) (w.differs told) first
    (first_lies new _ _ _ writes (disk c.args.side (now (g.W.World.log c.write_chain.new.world))) c.requires.as_many (w.lies told)) (first_turning new _ _ _ writes c.args.side _ _ _ _ (c.turn.ensures.any_moment told))

pub returns-clause-first_at_rest : goal.returns-clause-first_at_rest
returns-clause-first_at_rest g c told = λ new first writes.
    let in_range = c.args.gate.now.in_range in
    let w = c.in_ok-write_chain.ensures in
    subst (λ n. IsAtRest new n (disk c.args.side (now (g.W.World.log c.turn.new.world)))) (sym c.in_ok-turn.ensures.named)
    (first_rest new _ in_range.0 in_range.1 c.args.blocks.now c.requires.high _ _ (c.requires.gate told) (w.differs told) first
    (first_lies new _ _ _ writes (disk c.args.side (now (g.W.World.log c.write_chain.new.world))) c.requires.as_many (w.lies told)) _ (first_turned new _ _ _ writes _ _ _ (c.in_ok-turn.ensures.turned told)))

pub returns-clause-others : goal.returns-clause-others
returns-clause-others g c told = λ b up none.
    let in_range = c.args.gate.now.in_range in
    (c.in_ok-turn.ensures.turned told).others b (omega (arith, up)) (omega (arith, up, in_range.0)) ∙ (c.in_ok-write_chain.ensures.differs told).bytes b (stands_not c.args.blocks.now b none)
