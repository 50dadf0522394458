use Rattle.std.proofs.Common.{[], Option}
use Rattle.std.specs.Option.{option_map_or}
use Rattle.tm_world.specs.Outside.{disk}
use Rattle.tm_world.specs.declared.world.Side.TheVariants.{Store as StoreSide}
use Rattle.tm_machine.specs.Answers.{AnswersQuery}
use Rattle.tm_machine.specs.Queries.{store_rows}
use Rattle.tm_machine.specs.Steps.{on_store, place_tests}
use Rattle.tm_base.specs.declared.refused.LineFault.TheVariants.{Refused as RefusedFor}
use Rattle.tm_tree.specs.States.{StoreState}
use Rattle.tm_machine.proofs.Exits.{exit_is}
use Rattle.tm_machine.proofs.StoredLemmas.{no_store_answer, of_store}
use Rattle.tm_machine.proofs.session.Session.store_ls.Goals as goal

pub returns-in_err-store : goal.returns-in_err-store
returns-in_err-store c o =
    let none = c.in_err-store.ensures.none in
    let why = c.in_err-store.field-0.0 in
    no_store_answer (λ store. place_tests store c.args.place.now) (λ (z : Option StoreState). option_map_or (λ store. store_rows store c.args.place.now) z []) c.args.self.now o why c.from_residual.result none.0 none.1
    (exit_is c.from_residual.result (RefusedFor why) c.from_residual.ensures.1)

pub returns : goal.returns
returns c o =
    of_store (λ z. AnswersQuery (on_store z (λ store. place_tests store c.args.place.now)) (option_map_or (λ store. store_rows store c.args.place.now) z []) c.list_place.result)
    c.args.self.now c.in_ok-store.store.now o c.in_ok-store.ensures.store (c.list_place.ensures (disk StoreSide o).bytes)
