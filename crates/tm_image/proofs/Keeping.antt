-- Records keep their rules where they are put and removed.
use Rattle.std.proofs.Common.{◌≡◌, ℕ, suc, ◌^◌, ◌<◌, List, [], ◌∷◌, length, get_or, refl, subst, arith, Option, Some, None, true, false}
use Rattle.std.specs.List.{All}
use Rattle.std.specs.Option.{IsSome, IfSome}
use Rattle.std.specs.Ordering.{nat_cmp}
use Rattle.std.specs.BTreeMap.{insert_entry, is_at}
use Rattle.std.specs.Map.{keys_of, values_of, remove_entry}
use Rattle.std.proofs.lemmas.Map.Views.{All-keys-insert_entry, All-values-insert_entry, All-map-remove_entry, IfSome-lookup_from_All}
use Rattle.std.proofs.lemmas.List.{get_or-map, length-map}
use Rattle.tm_records.specs.declared.record.Record.{Record}
use Rattle.tm_records.specs.declared.record.Put.{Put}
use Rattle.tm_records.specs.declared.record.Body.{Body}
use Rattle.tm_records.specs.declared.record.Body.TheVariants.{Kept, Empty, New}
use Rattle.tm_records.specs.Records.{Records, at}
use Rattle.tm_records.specs.Puts.{CanPut, put_record, with_puts}
use Rattle.tm_records.specs.Removes.{without}
use Rattle.tm_records.proofs.Maps.{stays_there}
use Rattle.tm_image.specs.Seen.{IsKept}
use Rattle.tm_image.specs.Commit.{IsFilled}

-- what is found keeps what all keep
pub found : (P : Record → Type 0) (k : ℕ) (es : Records) → All P (values_of es) → (r : Record) → at k es ≡ Some r → P r
found P k es all r is = subst (λ o. IfSome o P) is (IfSome-lookup_from_All P (is_at (nat_cmp k)) es all)

kept_put : (body : Body) (meta : List ℕ) (old : Option Record) → length meta < 2 ^ 32 → CanPut body old → IsFilled body → ((r : Record) → old ≡ Some r → IsKept r) → IsKept (put_record body meta old)
kept_put Kept meta None small can filled was = absurd (let bad : false ≡ true = can in cc)
kept_put Kept meta (Some r) small can filled was = record { meta = small; many = (was r refl).many }
kept_put Empty meta old small can filled was = record { meta = small; many = refl }
kept_put (New blob) meta old small can filled was = record { meta = small; many = filled }

-- a put that can be made can be made after others
can_stays : (body : Body) (o n : Option Record) → (IsSome o → IsSome n) → CanPut body o → CanPut body n
can_stays Kept o n h can = h can
can_stays Empty o n h can = tt
can_stays (New blob) o n h can = tt

put_stays : (es : Records) (q : Put) (v : Record) (p : Put) → CanPut p.body (at p.key es) → CanPut p.body (at p.key (insert_entry nat_cmp es q.key v))
put_stays es q v p can = can_stays p.body (at p.key es) (at p.key (insert_entry nat_cmp es q.key v)) (stays_there es q.key v p.key) can

pub kept_with : (ps : List Put) (es : Records) → All (λ (p : Put). CanPut p.body (at p.key es)) ps → All (λ (p : Put). length p.meta < 2 ^ 32) ps → All (λ (p : Put). IsFilled p.body) ps → All IsKept (values_of es) → All IsKept (values_of (with_puts ps es))
kept_with [] es can small filled all = all
kept_with (p ∷ ps) es can small filled all =
    let v : Record = put_record p.body p.meta (at p.key es) in
    kept_with ps (insert_entry nat_cmp es p.key v) (λ k d lt. put_stays es p v (get_or ps k d) (can (suc k) d (omega arith))) (λ k d lt. small (suc k) d (omega arith)) (λ k d lt. filled (suc k) d (omega arith))
    (All-values-insert_entry nat_cmp p.key v IsKept es all (kept_put p.body p.meta (at p.key es) (small 0 p (omega arith)) (can 0 p (omega arith)) (filled 0 p (omega arith)) (found IsKept p.key es all)))

pub keys_with : (ps : List Put) (es : Records) → All (λ (p : Put). p.key < 2 ^ 64) ps → All (λ k. k < 2 ^ 64) (keys_of es) → All (λ k. k < 2 ^ 64) (keys_of (with_puts ps es))
keys_with [] es small all = all
keys_with (p ∷ ps) es small all = keys_with ps (insert_entry nat_cmp es p.key (put_record p.body p.meta (at p.key es))) (λ k d lt. small (suc k) d (omega arith))
    (All-keys-insert_entry nat_cmp p.key (put_record p.body p.meta (at p.key es)) (λ k. k < 2 ^ 64) es all (small 0 p (omega arith)))

pub keys_without : (ks : List ℕ) (es : Records) → All (λ k. k < 2 ^ 64) (keys_of es) → All (λ k. k < 2 ^ 64) (keys_of (without ks es))
keys_without [] es all = all
keys_without (k ∷ ks) es all = keys_without ks (remove_entry (is_at (nat_cmp k)) es) (All-map-remove_entry (is_at (nat_cmp k)) (λ (e : ℕ × Record). e.0) (λ x. x < 2 ^ 64) es all)

pub kept_without : (ks : List ℕ) (es : Records) → All IsKept (values_of es) → All IsKept (values_of (without ks es))
kept_without [] es all = all
kept_without (k ∷ ks) es all = kept_without ks (remove_entry (is_at (nat_cmp k)) es) (All-map-remove_entry (is_at (nat_cmp k)) (λ (e : ℕ × Record). e.1) IsKept es all)

pub metas_of : (es : Records) → All IsKept (values_of es) → All (λ e. length e.1.meta < 2 ^ 32) es
metas_of es all = λ k d lt.
    let f : ℕ × Record → Record = λ e. e.1 in
    let here : get_or (values_of es) k (f d) ≡ f (get_or es k d) = get_or-map f es k d (f d) lt in
    subst (λ (r : Record). length r.meta < 2 ^ 32) here (all k (f d) (omega (arith, lt, length-map es f))).meta
