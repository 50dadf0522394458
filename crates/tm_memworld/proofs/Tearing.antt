-- Each site is torn.
use Rattle.std.proofs.Common.{◌≡◌, ⊎_elim, ℕ, suc, ◌<◌, ◌≤◌, Bool, true, false, cond, List, [], ◌∷◌, length, drop, Option, Some, None, refl, sym, ◌∙◌, ap, subst, arith}
use Rattle.std.proofs.lemmas.Bool.{cond-false, cases_lt}
use Rattle.std.proofs.lemmas.List.{get_or_past}
use Rattle.std.specs.Option.{option_map}
use Rattle.std.specs.Str.{bytes_eq}
use Rattle.tm_world.specs.Disk.{Disk, nothing, IsLeft}
use Rattle.tm_world.specs.Outside.{Outside, Place, is_place, disk}
use Rattle.tm_world.specs.Torn.{as_read}
use Rattle.tm_world.specs.Log.{now}
use Rattle.tm_world.specs.declared.world.Side.{Side}
use Rattle.tm_world.specs.declared.world.Side.TheVariants.{Volume, Store}
use Rattle.tm_memworld.specs.declared.change.Change.{Change}
use Rattle.tm_memworld.specs.Torn.{torn_disk, stopped}
use Rattle.tm_memworld.specs.Site.{SiteView, blank, disk_of, IsBy}
use Rattle.tm_memworld.specs.Sites.{stands_in, room_at, path_at, IsFirst, AreSmall, AreBy, AreTorn}
use Rattle.tm_memworld.specs.Contents.{Contents, view}
use Rattle.tm_memworld.specs.Change.{log_in}
use Rattle.tm_memworld.proofs.Putting.{now-any}

torn-nothing : (torn : List ℕ) → nothing ≡ torn_disk torn nothing
unfolding torn_disk
torn-nothing torn = refl

count-torn : (torn : List ℕ) (d : Disk) → (torn_disk torn d).count ≡ d.count
unfolding torn_disk
count-torn torn d = refl

cond-torn : (torn : List ℕ) (b : Bool) (d e : Disk) → cond b (torn_disk torn d) (torn_disk torn e) ≡ torn_disk torn (cond b d e)
cond-torn torn true d e = refl
cond-torn torn false d e = refl

rest_torn : (torn : List ℕ) (time : ℕ) (s t : SiteView) (old new : List SiteView) → AreTorn torn time (s ∷ old) (t ∷ new) → AreTorn torn time old new
rest_torn torn time s t old new are = record { long = omega (arith, are.long); each = λ i lt. are.each (suc i) (omega arith) }

-- what stands at each place is torn
pub stands-torn : (torn : List ℕ) (time : ℕ) (old new : List SiteView) (at : Place) → AreTorn torn time old new → stands_in new at ≡ torn_disk torn (stands_in old at)
stands-torn torn time [] [] at are = torn-nothing torn
stands-torn torn time [] (t ∷ new) at are = absurd (omega (arith, are.long))
stands-torn torn time (s ∷ old) [] at are = absurd (omega (arith, are.long))
stands-torn torn time (s ∷ old) (t ∷ new) at are =
    let first = are.each 0 (omega arith) in
    (λ i. cond (is_place (Some (first.path i)) at) (first.disk i) (stands-torn torn time old new at (rest_torn torn time s t old new are) i))
    ∙ cond-torn torn (is_place (Some s.path) at) (disk_of s) (stands_in old at)

pub room-torn : (torn : List ℕ) (time : ℕ) (old new : List SiteView) (path : List ℕ) → AreTorn torn time old new → room_at new path ≡ room_at old path
room-torn torn time [] [] path are = refl
room-torn torn time [] (t ∷ new) path are = absurd (omega (arith, are.long))
room-torn torn time (s ∷ old) [] path are = absurd (omega (arith, are.long))
room-torn torn time (s ∷ old) (t ∷ new) path are =
    let first = are.each 0 (omega arith) in
    λ i. cond (bytes_eq (first.path i) path) (first.room i) (room-torn torn time old new path (rest_torn torn time s t old new are) i)

pub path-torn : (torn : List ℕ) (time : ℕ) (old new : List SiteView) (k : ℕ) → AreTorn torn time old new → path_at new k ≡ path_at old k
path-torn torn time old new k are = ⊎_elim
    (λ (lt : k < length old). (are.each k lt).path)
    (λ (le : length old ≤ k). ap (λ (s : SiteView). s.path) (get_or_past new k (blank [] 0) (omega (arith, are.long)) ∙ sym (get_or_past old k (blank [] 0) le)))
    (cases_lt k (length old))

places-torn : (torn : List ℕ) (time : ℕ) (old new : List SiteView) (at : Option ℕ) → AreTorn torn time old new → option_map (path_at new) at ≡ option_map (path_at old) at
places-torn torn time old new None are = refl
places-torn torn time old new (Some k) are = ap Some (path-torn torn time old new k are)

pub first-torn : (torn : List ℕ) (time : ℕ) (old new : List SiteView) (k : ℕ) → AreTorn torn time old new → IsFirst old k → IsFirst new k
first-torn torn time old new k are first = record {
  within = omega (arith, first.within, are.long);
  others = λ m below. subst (λ p. is_place (Some p) (Some (path_at new k)) ≡ false) (sym (path-torn torn time old new m are))
      (subst (λ p. is_place (Some (path_at old m)) (Some p) ≡ false) (sym (path-torn torn time old new k are)) (first.others m below));
}

pub small-torn : (torn : List ℕ) (time : ℕ) (old new : List SiteView) → AreTorn torn time old new → AreSmall old → AreSmall new
small-torn torn time old new are small = record {
  each = λ at. omega (arith, ap (λ (d : Disk). d.count) (stands-torn torn time old new at are) ∙ count-torn torn (stands_in old at), small.each at);
}

pub by-torn : (torn : List ℕ) (time : ℕ) (old new : List SiteView) → AreTorn torn time old new → AreBy time new
by-torn torn time old new are = record {
  each = λ k. ⊎_elim
      (λ (lt : k < length old). (are.each k lt).by)
      (λ (le : length old ≤ k). subst (IsBy time) (sym (get_or_past new k (blank [] 0) (omega (arith, are.long)))) (record { settled = omega arith; written = λ b. omega arith }))
      (cases_lt k (length old));
}

-- a stop
pub stop_is : (c : Contents) (changes : List Change) (began later time : ℕ) (torn : List ℕ) (sites : List SiteView) → AreTorn torn time c.sites sites
    → now (log_in (drop later changes) (record c { sites = sites; said = [] })) ≡ stopped torn (now (log_in (drop began changes) c))
stop_is c changes began later time torn sites are =
    let torn_view : view (record c { sites = sites; said = [] }) ≡ stopped torn (view c) = λ j. record (stopped torn (view c)) {
      stands = λ at. stands-torn torn time c.sites sites at are j;
      volume = places-torn torn time c.sites sites c.volume are j;
      store = places-torn torn time c.sites sites c.store are j;
    } in
    now-any changes later (record c { sites = sites; said = [] }) ∙ torn_view ∙ ap (stopped torn) (sym (now-any changes began c))

-- what stands after a stop is one of the images that the stop may leave
pub torn-left : (torn : List ℕ) (d : Disk) → IsLeft d (as_read (torn_disk torn d))
unfolding torn_disk
torn-left torn d = record { count = refl; stable = λ b is. cond-false (d.loose b) torn (d.bytes b) is }

disk-stopped : (torn : List ℕ) (side : Side) (s : Outside) → disk side (stopped torn s) ≡ torn_disk torn (disk side s)
unfolding disk
disk-stopped torn Volume s = refl
disk-stopped torn Store s = refl

pub stopped-left : (torn : List ℕ) (s new : Outside) → new ≡ stopped torn s → (side : Side) → IsLeft (disk side s) (as_read (disk side new))
stopped-left torn s new is side = subst (λ d. IsLeft (disk side s) (as_read d)) (sym (ap (disk side) is ∙ disk-stopped torn side s)) (torn-left torn (disk side s))
