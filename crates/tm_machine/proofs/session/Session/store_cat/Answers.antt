use Rattle.std.proofs.Common.{[], Option}
use Rattle.std.specs.Option.{option_map_or}
use Rattle.tm_base.specs.declared.refused.LineFault.TheVariants.{Refused as RefusedFor}
use Rattle.tm_tree.specs.States.{StoreState}
use Rattle.tm_world.specs.Log.{now}
use Rattle.tm_machine.specs.Answers.{AnswersReading}
use Rattle.tm_machine.specs.Queries.{content_rows, holding_snapshot, stored_tree}
use Rattle.tm_machine.specs.Steps.{content_tests, on_store, stored_tests}
use Rattle.tm_machine.proofs.Exits.{exit_is}
use Rattle.tm_machine.proofs.StoredLemmas.{no_store_reading, of_store}
use Rattle.tm_machine.proofs.session.Session.store_cat.Goals as goal

pub returns-in_err-store-clause-answer : goal.returns-in_err-store-clause-answer
returns-in_err-store-clause-answer g c told =
    let none = c.in_err-store.ensures.none in
    let why = c.in_err-store.field-0.0 in
    let item = c.args.item.now in
    no_store_reading (λ store. stored_tests content_tests (holding_snapshot store item) item.path) (λ (z : Option StoreState). option_map_or (λ store. content_rows (stored_tree (holding_snapshot store item)) item.path) z [])
    c.args.self.now (now (g.W.World.log c.args.world.now)) why c.from_residual.result none.0 none.1 (exit_is c.from_residual.result (RefusedFor why) c.from_residual.ensures.1)

pub returns-clause-answer : goal.returns-clause-answer
returns-clause-answer g c told =
    let item = c.args.item.now in
    of_store (λ z. AnswersReading (on_store z (λ store. stored_tests content_tests (holding_snapshot store item) item.path)) (option_map_or (λ store. content_rows (stored_tree (holding_snapshot store item)) item.path) z []) c.tell_stored.result)
    c.args.self.now c.in_ok-store.store.now (now (g.W.World.log c.args.world.now)) c.in_ok-store.ensures.store (c.tell_stored.ensures.answer told)
