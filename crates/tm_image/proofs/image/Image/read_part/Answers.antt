use Rattle.std.proofs.Common.{◌≡◌, ◌∙◌, ◌≤◌, ◌+◌, ℕ, List, length, get_or, take, drop, Some, ap, sym, subst, arith}
use Rattle.std.proofs.lemmas.Result.{on_ok_weaker}
use Rattle.std.specs.Option.{option_copied, option_map, IfSome}
use Rattle.tm_world.specs.Outside.{disk}
use Rattle.tm_world.specs.Log.{now}
use Rattle.tm_chain.specs.Blob.{bytes_in}
use Rattle.tm_chain.proofs.Held.{part_of_held}
use Rattle.tm_records.specs.Records.{Records, at}
use Rattle.tm_records.specs.declared.record.Record.{Record}
use Rattle.tm_image.specs.Seen.{Seen}
use Rattle.tm_image.specs.Reads.{Entry, entry_of, entries_of}
use Rattle.tm_image.specs.Lookups.{entry_at}
use Rattle.tm_image.proofs.Looking.{entry_at_is}
use Rattle.tm_image.proofs.Finding.{block_in}
use Rattle.tm_image.proofs.image.Image.read_part.Goals as goal

pub read_blob-requires-clause-within : goal.read_blob-requires-clause-within
read_blob-requires-clause-within g c = λ k from to.
    let here : at c.args.key c.self.inside.records.entries ≡ Some c.in-Some.record.now = sym c.get.ensures.value ∙ ap option_copied c.in-Some.is in
    let range : c.args.from + length c.args.into.now ≤ c.in-Some.record.now.length = subst (λ o. IfSome o (λ (r : Record). c.args.from + length c.args.into.now ≤ r.length)) (ap (λ (s : Seen). at c.args.key s.records) (sym c.self.view_is) ∙ here) c.requires.range in
    let inside = block_in _ c.self.invariant c.args.key c.in-Some.record.now k here (omega (arith, to, range)) in
    omega (arith, inside, ap (λ bs. get_or bs k 0) c.as_slice.ensures, ap (λ (s : Seen). length s.used) c.self.view_is, c.requires.count, ap (λ (s : Seen). g.W.World.blocks c.args.world.now s.side) c.self.view_is)

-- a part of the data is a part of the entry's bytes
part : (bytes : ℕ → List ℕ) (es : Records) (k from n : ℕ) (r : Record) (got : List ℕ) → at k es ≡ Some r → from + n ≤ r.length → got ≡ bytes_in r.blocks bytes from n → IfSome (entry_at k (entries_of bytes es)) (λ e. got ≡ take n (drop from e.bytes))
part bytes es k from n r got here range is = subst (λ o. IfSome o (λ (e : Entry). got ≡ take n (drop from e.bytes))) (sym (entry_at_is k bytes es ∙ ap (option_map (entry_of bytes)) here)) (is ∙ sym (part_of_held r.blocks bytes r.length from n range))

pub returns-clause-entry : goal.returns-clause-entry
returns-clause-entry g c told =
    let m = c.args.self.now in
    let d0 = disk m.side (now (g.W.World.log c.args.world.now)) in
    let found : at c.args.key c.self.inside.records.entries ≡ Some c.in-Some.record.now = sym c.get.ensures.value ∙ ap option_copied c.in-Some.is in
    let here : at c.args.key m.records ≡ Some c.in-Some.record.now = ap (λ (s : Seen). at c.args.key s.records) (sym c.self.view_is) ∙ found in
    let range : c.args.from + length c.args.into.now ≤ c.in-Some.record.now.length = subst (λ o. IfSome o (λ (r : Record). c.args.from + length c.args.into.now ≤ r.length)) here c.requires.range in
    on_ok_weaker c.read_blob.result (λ (is : c.read_blob.new.into ≡ bytes_in c.as_slice.result.now (disk c.self.inside.side (now (g.W.World.log c.args.world.now))).bytes c.args.from (length c.args.into.now)). part d0.bytes m.records c.args.key c.args.from (length c.args.into.now) c.in-Some.record.now c.read_blob.new.into here range
    (is ∙ ap (λ bs. bytes_in bs (disk c.self.inside.side (now (g.W.World.log c.args.world.now))).bytes c.args.from (length c.args.into.now)) c.as_slice.ensures ∙ ap (λ (s : Seen). bytes_in c.in-Some.record.now.blocks (disk s.side (now (g.W.World.log c.args.world.now))).bytes c.args.from (length c.args.into.now)) c.self.view_is)) (c.read_blob.ensures.bytes told)
