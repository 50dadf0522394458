use Rattle.std.proofs.Common.{◌≡◌, ◌+◌, ◌≤◌, true, length, is_some, take, drop, sym, subst, arith}
use Rattle.std.specs.Prelude.{IfSome, IsSome}
use Rattle.std.proofs.lemmas.Result.{on_ok_weaker}
use Rattle.tm_graph.specs.Nodes.{node}
use Rattle.tm_identity.specs.Stored.{node_length}
use Rattle.tm_records.specs.Records.{at}
use Rattle.tm_image.specs.Lookups.{entry_at}
use Rattle.tm_image.specs.Reads.{entries_of}
use Rattle.tm_store_records.specs.Found.{node_key}
use Rattle.tm_world.specs.Log.{now}
use Rattle.tm_world.specs.Outside.{disk}
use Rattle.tm_world.specs.declared.world.Side.{Side}
use Rattle.tm_world.specs.declared.world.Side.TheVariants.{Store}
use Rattle.tm_store_records.specs.Held.{Held, IsWhole, files_of}
use Rattle.tm_store.specs.contracts.store.Store.{the_view}
use Rattle.tm_store.proofs.Filing.{record_is, range_is, bytes_are}
use Rattle.tm_store.proofs.store.Store.read_file.Goals as goal

pub overflow_add-number-inside : goal.overflow_add-number-inside
overflow_add-number-inside g c = let low = c.len.ensures.graph.low c.args.number (subst (λ (h : Held). is_some (node h.nodes c.args.number) ≡ true) (sym c.self.view_is) c.requires.there) in omega (arith, low)

pub read_part-requires-clause-there : goal.read_part-requires-clause-there
read_part-requires-clause-there g c =
    let whole : IsWhole (the_view c.self.inside) = subst IsWhole (sym c.self.view_is) c.requires.whole in
    subst (λ n. IsSome (at (node_key n) (the_view c.self.inside).image.records)) (sym c.number.view_is)
    (record_is c.spellings_are_found.ensures.nodes (the_view c.self.inside) whole c.args.number (subst (λ (h : Held). is_some (node h.nodes c.args.number) ≡ true) (sym c.self.view_is) c.requires.there))

pub read_part-requires-clause-range : goal.read_part-requires-clause-range
read_part-requires-clause-range g c =
    let whole : IsWhole (the_view c.self.inside) = subst IsWhole (sym c.self.view_is) c.requires.whole in
    subst (λ n. IfSome (at (node_key n) (the_view c.self.inside).image.records) (λ r. c.args.at + length c.args.into.now ≤ r.length)) (sym c.number.view_is)
    (range_is c.spellings_are_found.ensures.nodes (the_view c.self.inside) whole c.args.number (subst (λ (h : Held). is_some (node h.nodes c.args.number) ≡ true) (sym c.self.view_is) c.requires.there)
    c.args.at (length c.args.into.now) (subst (λ (h : Held). IfSome (node h.nodes c.args.number) (λ row. c.args.at + length c.args.into.now ≤ node_length row)) (sym c.self.view_is) c.requires.range))

pub returns-clause-bytes : goal.returns-clause-bytes
returns-clause-bytes g c told = on_ok_weaker c.read_part.result
    (λ read.
    let h : Held = the_view c.self.inside in
    let n = c.args.number in
    let whole : IsWhole h = subst IsWhole (sym c.self.view_is) c.requires.whole in
    let there = subst (λ (k : Held). is_some (node k.nodes n) ≡ true) (sym c.self.view_is) c.requires.there in
    let bytes = (disk Store (now (g.W.World.log c.args.world.now))).bytes in
    let here : IfSome (entry_at (node_key n) (entries_of bytes h.image.records)) (λ e. c.read_part.new.into ≡ take (length c.args.into.now) (drop c.args.at e.bytes))
    = subst (λ (s : Side). IfSome (entry_at (node_key n) (entries_of (disk s (now (g.W.World.log c.args.world.now))).bytes h.image.records)) (λ e. c.read_part.new.into ≡ take (length c.args.into.now) (drop c.args.at e.bytes))) whole.side
    (subst (λ k. IfSome (entry_at (node_key k) (entries_of (disk h.image.side (now (g.W.World.log c.args.world.now))).bytes h.image.records)) (λ e. c.read_part.new.into ≡ take (length c.args.into.now) (drop c.args.at e.bytes))) c.number.view_is read) in
    subst (λ (k : Held). c.read_part.new.into ≡ take (length c.args.into.now) (drop c.args.at (files_of k.image.records bytes n))) c.self.view_is
    (bytes_are c.spellings_are_found.ensures.nodes h whole n there bytes c.args.at (length c.args.into.now) c.read_part.new.into here))
    (c.read_part.ensures.entry told)
