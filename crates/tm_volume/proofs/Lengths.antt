-- No item gets longer than files may be, whatever edit is made.
use Rattle.std.proofs.Common.{◌≡◌, ℕ, ◌≤◌, ◌<◌, suc, Bool, true, false, cond, sym, subst, Option, Some, None, IfSome, arith, List, [], ◌∷◌, refl}
use Rattle.std.specs.BTreeMap.{is_at, insert_entry}
use Rattle.std.specs.List.{All}
use Rattle.std.specs.Map.{remove_entry}
use Rattle.std.specs.Ordering.{nat_cmp}
use Rattle.tm_image.specs.Commit.{changed}
use Rattle.tm_items.proofs.Reading.{number_decides}
use Rattle.tm_records.specs.declared.record.Body.{Body}
use Rattle.tm_records.specs.declared.record.Body.TheVariants.{Kept, Empty, New}
use Rattle.tm_records.specs.declared.record.Put.{Put}
use Rattle.tm_records.specs.declared.record.Record.{Record}
use Rattle.tm_records.specs.Puts.{put_record, with_puts}
use Rattle.tm_records.specs.Records.{Records, at}
use Rattle.tm_records.specs.Removes.{without}
use Rattle.tm_base.specs.Limits.{max_items, max_file_bytes}
use Rattle.tm_volume_records.specs.Records.{item_key}
use Rattle.tm_volume_records.specs.Rules.{AreShort}
use Rattle.tm_volume_records.proofs.Slots.{Rising}
use Rattle.tm_volume.specs.Edits.{IsShortBody, IsShortPut}
use Rattle.tm_volume.proofs.Changing.{at_insert, at_remove, rising_insert, rising_remove}

abbrev IsShort : Record → Type 0
IsShort r = r.length ≤ max_file_bytes

put_short : (b : Body) (meta : List ℕ) (o : Option Record) → IsShortBody b → IfSome o IsShort → IsShort (put_record b meta o)
put_short Kept meta None short old = omega arith
put_short Kept meta (Some r) short old = old
put_short Empty meta o short old = omega arith
put_short (New blob) meta o short old = short

insert_short : (es : Records) (k : ℕ) (v : Record) → AreShort es → ((n : ℕ) → 1 ≤ n → n ≤ max_items → k ≡ item_key n → IsShort v) → AreShort (insert_entry nat_cmp es k v)
insert_short es k v short new = λ n least most.
    subst (λ o. IfSome o IsShort) (sym (at_insert es k v (item_key n)))
    (by_test n (is_at (nat_cmp (item_key n)) k) (λ same. new n least most (sym ((number_decides (item_key n) k).0 same))) (short n least most))
  where
    by_test : (n : ℕ) (b : Bool) → (b ≡ true → IsShort v) → IfSome (at (item_key n) es) IsShort → IfSome (cond b (Some v) (at (item_key n) es)) IsShort
    by_test n true here there = here refl
    by_test n false here there = there

remove_short : (es : Records) (k : ℕ) → Rising es → AreShort es → AreShort (remove_entry (is_at (nat_cmp k)) es)
remove_short es k rising short = λ n least most. subst (λ o. IfSome o IsShort) (sym (at_remove es k (item_key n) rising)) (by_test n (is_at (nat_cmp (item_key n)) k) (short n least most))
  where
    by_test : (n : ℕ) (b : Bool) → IfSome (at (item_key n) es) IsShort → IfSome (cond b None (at (item_key n) es)) IsShort
    by_test n true there = tt
    by_test n false there = there

puts_short : (puts : List Put) (es : Records) → All IsShortPut puts → AreShort es → AreShort (with_puts puts es)
puts_short [] es all short = short
puts_short (p ∷ ps) es all short =
    let first : IsShortPut p = all 0 p (omega (arith)) in
    puts_short ps (insert_entry nat_cmp es p.key (put_record p.body p.meta (at p.key es))) (λ k d lt. all (suc k) d (omega (arith, lt)))
    (insert_short es p.key (put_record p.body p.meta (at p.key es)) short
    (λ n least most is. put_short p.body p.meta (at p.key es) (first n least is) (subst (λ k. IfSome (at k es) IsShort) (sym is) (short n least most))))

puts_rise : (puts : List Put) (es : Records) → Rising es → Rising (with_puts puts es)
puts_rise [] es s = s
puts_rise (p ∷ ps) es s = puts_rise ps (insert_entry nat_cmp es p.key (put_record p.body p.meta (at p.key es))) (rising_insert es p.key (put_record p.body p.meta (at p.key es)) s)

without_short : (keys : List ℕ) (es : Records) → Rising es → AreShort es → AreShort (without keys es)
without_short [] es s short = short
without_short (k ∷ ks) es s short = without_short ks (remove_entry (is_at (nat_cmp k)) es) (rising_remove es k s) (remove_short es k s short)

pub changed_short : (keys : List ℕ) (puts : List Put) (es : Records) → Rising es → All IsShortPut puts → AreShort es → AreShort (changed keys puts es)
changed_short keys puts es rising all short = without_short keys (with_puts puts es) (puts_rise puts es rising) (puts_short puts es all short)
