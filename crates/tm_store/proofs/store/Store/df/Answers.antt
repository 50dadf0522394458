use Rattle.std.proofs.Common.{sum_by, sym, ap, ◌∙◌, subst}
use Rattle.std.specs.Map.{values_of}
use Rattle.tm_identity.specs.Stored.{node_length}
use Rattle.tm_store_records.specs.Held.{Held, IsWhole}
use Rattle.tm_store.specs.contracts.store.Store.{the_view}
use Rattle.tm_store.proofs.Filing.{heads_sorted}
use Rattle.tm_store.proofs.Tallying.{few_bytes, sums_same}
use Rattle.tm_store.proofs.store.Store.df.Goals as goal

pub stored_bytes-requires : goal.stored_bytes-requires
stored_bytes-requires c =
    let h = the_view c.self.inside in
    let whole : IsWhole h = subst IsWhole (sym c.self.view_is) c.requires in
    few_bytes c.spellings_are_found.ensures.nodes h whole c.len.ensures.graph.in_order (heads_sorted h.image.records c.total.ensures.sound.rising)

pub returns-clause-stored : goal.returns-clause-stored
returns-clause-stored c = c.stored_bytes.ensures ∙ sums_same c.self.inside.graph ∙ ap (λ (h : Held). sum_by node_length (values_of h.nodes)) c.self.view_is
