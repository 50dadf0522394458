-- Records with as many blocks as their data fill, and what is known after an edit.
use Rattle.std.proofs.Common.{◌≡◌, ℕ, ◌≤◌, Bool, true, false, cond, length, sym, ap, ◌∙◌, subst, Option, Some, None, arith, suc, ◌<◌, ◌^◌, List, [], ◌∷◌, refl}
use Rattle.std.specs.Ordering.{nat_cmp}
use Rattle.std.specs.BTreeMap.{is_at, insert_entry}
use Rattle.std.specs.Map.{remove_entry}
use Rattle.tm_records.specs.declared.record.Record.{Record}
use Rattle.tm_records.specs.Records.{Records, at}
use Rattle.tm_image.specs.Layout.{places, blocks_for}
use Rattle.tm_image.specs.Room.{free_of, table_len}
use Rattle.tm_image.specs.Seen.{IsKept, IsSound as IsSoundImage}
use Rattle.tm_volume.specs.Seen.{Seen, IsReady}
use Rattle.tm_volume.proofs.Changing.{at_insert, at_remove, rising_insert, rising_remove}
use Rattle.tm_volume_records.proofs.Slots.{Rising}
use Rattle.std.specs.List.{All}
use Rattle.tm_records.specs.declared.record.Body.{Body}
use Rattle.tm_records.specs.declared.record.Body.TheVariants.{Kept, Empty, New}
use Rattle.tm_records.specs.declared.record.Put.{Put}
use Rattle.tm_records.specs.Puts.{put_record, with_puts}
use Rattle.tm_records.specs.Removes.{without}
use Rattle.tm_image.specs.Commit.{IsPut, IsFilled}
use Rattle.tm_volume.specs.declared.edit.Edit.{Edit}
use Rattle.tm_volume.specs.Edits.{after, IsEdit, IsGoodEdit}
use Rattle.tm_volume.proofs.Rooms.{Known}

-- ---- records with as many blocks as their data fill

pub record AreKept (es : Records) : Type 0 where
  pub each : (k : ℕ) (r : Record) → at k es ≡ Some r → IsKept r

some_in : {X P : Type 0} (b : Bool) (v : X) (o : Option X) (r : X) → cond b (Some v) o ≡ Some r → (v ≡ r → P) → (o ≡ Some r → P) → P
some_in true v o r h here there = here (let e : v ≡ r = cc in e)
some_in false v o r h here there = there h

left_in : {X P : Type 0} (b : Bool) (o : Option X) (r : X) → cond b None o ≡ Some r → (o ≡ Some r → P) → P
left_in true o r h there = cc
left_in false o r h there = there h

pub kept_put : (es : Records) (k : ℕ) (v : Record) → AreKept es → IsKept v → AreKept (insert_entry nat_cmp es k v)
kept_put es k v kept new = record {
  each = λ j r is. some_in {P = IsKept r} (is_at (nat_cmp j) k) v (at j es) r (sym (at_insert es k v j) ∙ is)
      (λ same. subst (λ (x : Record). IsKept x) same new)
      (λ there. kept.each j r there);
}

pub kept_remove : (es : Records) (k : ℕ) → Rising es → AreKept es → AreKept (remove_entry (is_at (nat_cmp k)) es)
kept_remove es k s kept = record {
  each = λ j r is. left_in {P = IsKept r} (is_at (nat_cmp j) k) (at j es) r (sym (at_remove es k j s) ∙ is) (λ there. kept.each j r there);
}

-- ---- the room

pub room_here : (m : Seen) (blocks : ℕ) → IsReady m blocks → IsSoundImage m.image → table_len m.image.records ≤ free_of m.image
room_here m blocks ready sound =
    let table : length (places m.image.layout) ≡ table_len m.image.records = sound.many ∙ ap blocks_for ready.settled in
    omega (arith, ready.space, table)

-- ---- what is known after an edit

put_kept : (b : Body) (meta : List ℕ) (o : Option Record) → length meta < 2 ^ 32 → ((r : Record) → o ≡ Some r → IsKept r) → IsFilled b → IsKept (put_record b meta o)
put_kept Kept meta None short old filled = record { meta = short; many = refl }
put_kept Kept meta (Some r) short old filled = record { meta = short; many = (old r refl).many }
put_kept Empty meta o short old filled = record { meta = short; many = refl }
put_kept (New blob) meta o short old filled = record { meta = short; many = filled }

puts_kept : (rs : Records) (puts : List Put) (es : Records) → All (IsPut rs) puts → AreKept es → AreKept (with_puts puts es)
puts_kept rs [] es all kept = kept
puts_kept rs (p ∷ ps) es all kept =
    let first : IsPut rs p = all 0 p (omega (arith)) in
    let v = put_record p.body p.meta (at p.key es) in
    puts_kept rs ps (insert_entry nat_cmp es p.key v) (λ k d lt. all (suc k) d (omega (arith, lt)))
    (kept_put es p.key v kept (put_kept p.body p.meta (at p.key es) first.meta (kept.each p.key) first.filled))

puts_rising : (puts : List Put) (es : Records) → Rising es → Rising (with_puts puts es)
puts_rising [] es s = s
puts_rising (p ∷ ps) es s = puts_rising ps (insert_entry nat_cmp es p.key (put_record p.body p.meta (at p.key es))) (rising_insert es p.key (put_record p.body p.meta (at p.key es)) s)

without_kept : (keys : List ℕ) (es : Records) → Rising es → AreKept es → AreKept (without keys es)
without_kept [] es s kept = kept
without_kept (k ∷ ks) es s kept = without_kept ks (remove_entry (is_at (nat_cmp k)) es) (rising_remove es k s) (kept_remove es k s kept)

without_rising : (keys : List ℕ) (es : Records) → Rising es → Rising (without keys es)
without_rising [] es s = s
without_rising (k ∷ ks) es s = without_rising ks (remove_entry (is_at (nat_cmp k)) es) (rising_remove es k s)

pub known_then : (m : Seen) (e : Edit) (bytes : ℕ → List ℕ) → Known m bytes → IsEdit m e → IsGoodEdit m e bytes → Known (after m e) bytes
known_then m e bytes known is good = record {
  rising = without_rising e.remove.items (with_puts e.put.items m.image.records) (puts_rising e.put.items m.image.records known.rising);
  kept = (without_kept e.remove.items (with_puts e.put.items m.image.records) (puts_rising e.put.items m.image.records known.rising)
      (puts_kept m.image.records e.put.items m.image.records is.put (record { each = known.kept }))).each;
  sound = is.sound bytes;
  good = good.good;
  head = is.head;
}
