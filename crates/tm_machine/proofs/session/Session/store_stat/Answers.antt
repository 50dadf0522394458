use Rattle.std.proofs.Common.{[]}
use Rattle.std.specs.Option.{option_map_or}
use Rattle.tm_tree.specs.Changes.{item_tests}
use Rattle.tm_world.specs.Outside.{disk}
use Rattle.tm_world.specs.declared.world.Side.TheVariants.{Store as StoreSide}
use Rattle.tm_machine.specs.Answers.{AnswersQuery}
use Rattle.tm_machine.specs.Queries.{holding_snapshot, stat_rows}
use Rattle.tm_machine.specs.Steps.{on_store, stored_tests}
use Rattle.tm_machine.proofs.StoredLemmas.{of_store}
use Rattle.tm_machine.proofs.session.Session.store_stat.Goals as goal

pub returns : goal.returns
returns c o =
    let item = c.args.item.now in
    of_store (λ z. AnswersQuery (on_store z (λ store. stored_tests item_tests (holding_snapshot store item) item.path)) (option_map_or (λ store. stat_rows store item) z []) c.tell_stat.result)
    c.args.self.now c.in_ok-store.store.now o c.in_ok-store.ensures.store (c.tell_stat.ensures (disk StoreSide o).bytes)
