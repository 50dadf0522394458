use Rattle.std.proofs.Common.{ℕ, Option, IfSome, [], subst}
use Rattle.std.specs.Option.{option_map_or}
use Rattle.tm_store_records.specs.Held.{Held, store_on}
use Rattle.tm_world.specs.Outside.{disk}
use Rattle.tm_world.specs.declared.world.Side.TheVariants.{Store as StoreSide}
use Rattle.tm_machine.specs.Answers.{AnswersQuery}
use Rattle.tm_machine.specs.Queries.{df_rows}
use Rattle.tm_machine.specs.Session.{IsIdle}
use Rattle.tm_machine.specs.Steps.{on_store}
use Rattle.tm_machine.proofs.StoredLemmas.{of_store}
use Rattle.tm_machine.proofs.session.Session.store_df.Goals as goal

pub returns : goal.returns
returns c o =
    let m = c.args.self.now in
    let h = c.in_ok-store.store.now in
    let bytes = (disk StoreSide o).bytes in
    let idle = subst (λ (x : Option Held). IfSome x (λ h. IsIdle h m.store_blocks)) c.in_ok-store.ensures.store c.requires.idle in
    of_store (λ z. AnswersQuery (on_store z (λ store. [])) (option_map_or (df_rows m.store_blocks) z []) c.tell_df.result) m h o c.in_ok-store.ensures.store
    (subst (λ (n : ℕ). AnswersQuery [] (df_rows n (store_on h bytes)) c.tell_df.result) idle.count (c.tell_df.ensures bytes))
