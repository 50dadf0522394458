-- What stands at a path that is to be attached, and whether it can be.
use Rattle.std.proofs.Common.{◌≡◌, ◌≢◌, ◌⊎◌, inl, inr, ℕ, ◌<◌, ◌≤◌, Bool, true, false, cond, ltb, ◌||◌, IsTrue, List, [], ◌∷◌, length, Option, Some, None, refl, sym, ◌∙◌, ap, subst, rules, tests, arith}
use Rattle.std.proofs.lemmas.Bool.{cond-true, cond-false, false_from_ne_true}
use Rattle.std.specs.Option.{option_map, is_some}
use Rattle.tm_base.specs.Limits.{max_blocks}
use Rattle.tm_world.specs.Disk.{Disk, nothing}
use Rattle.tm_world.specs.Outside.{Outside, Place, is_place, place, disk, put_at, with_place}
use Rattle.tm_world.specs.Log.{Log, now, Steps}
use Rattle.tm_world.specs.Runs.{other}
use Rattle.tm_world.specs.declared.world.Side.{Side}
use Rattle.tm_world.proofs.Sides.{is_place-same, is_place-true}
use Rattle.tm_memworld.specs.Site.{SiteView, disk_in, disk_of}
use Rattle.tm_memworld.specs.Sites.{stands_in, site_at, path_at, IsFirst, IsNowhere}
use Rattle.tm_memworld.specs.Contents.{view, attached_at}
use Rattle.tm_memworld.specs.Devices.{contents_of, outside, places_of, cannot_make, cannot_open}
use Rattle.tm_memworld.specs.declared.devices.Devices.{Devices}
use Rattle.tm_memworld.proofs.Views.{stands_at, stands_nowhere, room_nowhere, room_here, place-view, first_once}
use Rattle.tm_memworld.proofs.Going.{seen, first_of}
use Rattle.tm_memworld.proofs.Attaching.{disk-with_place, disk_other-with_place}

pub none_is : (o : Option ℕ) → is_some o ≡ false → o ≡ None
none_is None e = refl
none_is (Some n) e = cc

-- an answer that is not None, where nothing forbids it, and one that is, where something does
pub can : (cannot : Bool) → cannot ≡ false → (true ≡ false → IsTrue cannot) × (IsTrue cannot → true ≡ false)
can cannot is = (λ e. cc, λ shut. sym shut ∙ is)

pub cannot_so : (cannot : Bool) → cannot ≡ true → (false ≡ false → IsTrue cannot) × (IsTrue cannot → false ≡ false)
cannot_so cannot is = (λ e. is, λ shut. refl)

nothing_there : (blocks : List (List ℕ)) (times : List ℕ) (settled : ℕ) → disk_in None blocks times settled ≡ nothing
unfolding disk_in
nothing_there blocks times settled = refl

pub disk_of-none : (s : SiteView) → s.count ≡ None → disk_of s ≡ nothing
disk_of-none s none = ap (λ o. disk_in o s.blocks s.times s.settled) none ∙ nothing_there s.blocks s.times s.settled

there_is : (n : ℕ) (blocks : List (List ℕ)) (times : List ℕ) (settled : ℕ) → (disk_in (Some n) blocks times settled).there ≡ true
unfolding disk_in
there_is n blocks times settled = refl

count_is : (n : ℕ) (blocks : List (List ℕ)) (times : List ℕ) (settled : ℕ) → (disk_in (Some n) blocks times settled).count ≡ n
unfolding disk_in
count_is n blocks times settled = refl

pub there-some : (s : SiteView) (n : ℕ) → s.count ≡ Some n → (disk_of s).there ≡ true
there-some s n some = ap (λ o. (disk_in o s.blocks s.times s.settled).there) some ∙ there_is n s.blocks s.times s.settled

pub count-some : (s : SiteView) (n : ℕ) → s.count ≡ Some n → (disk_of s).count ≡ n
count-some s n some = ap (λ o. (disk_in o s.blocks s.times s.settled).count) some ∙ count_is n s.blocks s.times s.settled

pub standing : (side : Side) (path : List ℕ) (create : Option ℕ) (places : List ℕ → ℕ) (s : Outside) → (s.stands (Some path)).there ≡ true → cannot_open side path create places s ≡ false
standing side path create places s there = cond-true _ false _ there

pub empty_there : (side : Side) (path : List ℕ) (create : Option ℕ) (places : List ℕ → ℕ) (s : Outside) → s.stands (Some path) ≡ nothing → cannot_open side path create places s ≡ cannot_make side path create places s
empty_there side path create places s none = cond-false _ false (cannot_make side path create places s) (ap (λ (d : Disk). d.there) none)

-- a path of more than 1,023 bytes
pub too_long : (side : Side) (path : List ℕ) (places : List ℕ → ℕ) (s : Outside) → 1023 < length path → cannot_make side path None places s ≡ true
too_long side path places s long = search (rules, tests)

or_left : (b c : Bool) → b ≡ true → (b || c) ≡ true
or_left true c e = refl
or_left false c e = cc

or_right : (b c : Bool) → c ≡ true → (b || c) ≡ true
or_right true c e = refl
or_right false c e = e

or_none : (b c : Bool) → b ≡ false → c ≡ false → (b || c) ≡ false
or_none true c e f = cc
or_none false c e f = f

pub too_few : (side : Side) (path : List ℕ) (n : ℕ) (places : List ℕ → ℕ) (s : Outside) → places path < n → cannot_make side path (Some n) places s ≡ true
too_few side path n places s lt = or_left (ltb (places path) n) (is_place (place (other side) s) (Some path)) (search (rules, tests))

pub other_there : (side : Side) (path : List ℕ) (n : ℕ) (places : List ℕ → ℕ) (s : Outside) → is_place (place (other side) s) (Some path) ≡ true → cannot_make side path (Some n) places s ≡ true
other_there side path n places s at = or_right (ltb (places path) n) (is_place (place (other side) s) (Some path)) at

pub enough : (side : Side) (path : List ℕ) (n : ℕ) (places : List ℕ → ℕ) (s : Outside) → n ≤ places path → is_place (place (other side) s) (Some path) ≡ false → cannot_make side path (Some n) places s ≡ false
enough side path n places s le at = or_none (ltb (places path) n) (is_place (place (other side) s) (Some path)) (search (rules, tests)) at

-- an unknown path at which an image is to be made, or that is too long
pub unknown : (side : Side) (path : List ℕ) (create : Option ℕ) (places : List ℕ → ℕ) (s : Outside) → places path ≡ 0 → ((n : ℕ) → create ≡ Some n → 1 ≤ n) → (is_some create ≡ true) ⊎ (1023 < length path)
    → cannot_make side path create places s ≡ true
unknown side path None places s none least (inl some) = cc
unknown side path None places s none least (inr long) = too_long side path places s long
unknown side path (Some n) places s none least either = too_few side path n places s (omega (arith, least n refl))

module _ (d : Devices) (path : List ℕ) where
  is_seen : view (contents_of d) ≡ outside d
  is_seen = seen (contents_of d) d.began d.changes.items

  pub none_stands : IsNowhere d.sites.items path → (outside d).stands (Some path) ≡ nothing
  none_stands nowhere = ap (λ (s : Outside). s.stands (Some path)) (sym is_seen) ∙ stands_nowhere d.sites.items path nowhere

  pub no_room : IsNowhere d.sites.items path → places_of d path ≡ 0
  no_room nowhere = room_nowhere d.sites.items path nowhere

  module _ (i : ℕ) (s : SiteView) (first : IsFirst d.sites.items i) (path_is : path_at d.sites.items i ≡ path) (is : s ≡ site_at d.sites.items i) where
    pub stands_is : (outside d).stands (Some path) ≡ disk_of s
    stands_is = ap (λ (o : Outside). o.stands (Some path)) (sym is_seen) ∙ ap (λ p. (view (contents_of d)).stands (Some p)) (sym path_is) ∙ stands_at d.sites.items i first ∙ ap disk_of (sym is)

    pub room_is : places_of d path ≡ length s.blocks
    room_is = ap (places_of d) (sym path_is) ∙ room_here d.sites.items i first ∙ ap (λ (u : SiteView). length u.blocks) (sym is)

    pub small_is : (disk_of s).count ≤ max_blocks
    small_is = subst (λ (e : Disk). e.count ≤ max_blocks) (stands_at d.sites.items i first ∙ ap disk_of (sym is)) (d.small.each (Some (path_at d.sites.items i)))

    pub at_other : (side : Side) → attached_at side (contents_of d) ≡ Some i → is_place (place side (outside d)) (Some path) ≡ true
    at_other side at = subst (λ p. is_place p (Some path) ≡ true)
        (sym (ap (place side) (sym is_seen) ∙ place-view side (contents_of d) ∙ ap (option_map (path_at d.sites.items)) at ∙ ap Some path_is)) (is_place-same (Some path))

    elsewhere : (at : Option ℕ) → at ≢ Some i → ((k : ℕ) → at ≡ Some k → IsFirst d.sites.items k) → is_place (option_map (path_at d.sites.items) at) (Some path) ≡ false
    elsewhere None ne firsts = refl
    elsewhere (Some k) ne firsts = false_from_ne_true _ (λ same.
        let one : Some (path_at d.sites.items k) ≡ Some path = is_place-true (Some (path_at d.sites.items k)) (Some path) same in
        let paths : path_at d.sites.items k ≡ path_at d.sites.items i = cc in
        ne (ap Some (first_once d.sites.items k i (firsts k refl) first paths)))

    pub not_at_other : (side : Side) → attached_at side (contents_of d) ≢ Some i → is_place (place side (outside d)) (Some path) ≡ false
    not_at_other side ne = subst (λ p. is_place p (Some path) ≡ false) (sym (ap (place side) (sym is_seen) ∙ place-view side (contents_of d)))
        (elsewhere (attached_at side (contents_of d)) ne (λ k at. first_of side (contents_of d) k d.volume_first d.store_first at))

-- the disks of both sides after one is attached
module _ (old new : Log) (side : Side) (path : List ℕ) (s : Outside) (steps : Steps old new (with_place side (Some path) s)) where
  pub disk_then : disk side (now new) ≡ s.stands (Some path)
  disk_then = ap (disk side) steps.ends ∙ disk-with_place side (Some path) s

  pub disk_beside : disk (other side) (now new) ≡ disk (other side) s
  disk_beside = ap (disk (other side)) steps.ends ∙ disk_other-with_place side (Some path) s

pub stands-put_at : (path : List ℕ) (d : Disk) (s : Outside) → (put_at (Some path) d s).stands (Some path) ≡ d
stands-put_at path d s = cond-true (is_place (Some path) (Some path)) d (s.stands (Some path)) (is_place-same (Some path))

there_cases : (count : Option ℕ) (blocks : List (List ℕ)) (times : List ℕ) (settled : ℕ) → (disk_in count blocks times settled).there ≡ is_some count
unfolding disk_in
there_cases None blocks times settled = refl
there_cases (Some n) blocks times settled = refl

pub there-is_some : (s : SiteView) → (disk_of s).there ≡ is_some s.count
there-is_some s = there_cases s.count s.blocks s.times s.settled

nothing_cases : (count : Option ℕ) (blocks : List (List ℕ)) (times : List ℕ) (settled : ℕ) → (disk_in count blocks times settled).there ≡ false → disk_in count blocks times settled ≡ nothing
unfolding disk_in
nothing_cases None blocks times settled e = refl
nothing_cases (Some n) blocks times settled e = cc

cond_nothing : (b : Bool) (d e : Disk) → (d.there ≡ false → d ≡ nothing) → (e.there ≡ false → e ≡ nothing) → (cond b d e).there ≡ false → cond b d e ≡ nothing
cond_nothing true d e first second h = first h
cond_nothing false d e first second h = second h

-- in memory nothing stands where no image does
pub nothing_stands : (sites : List SiteView) (at : Place) → (stands_in sites at).there ≡ false → stands_in sites at ≡ nothing
nothing_stands [] at e = refl
nothing_stands (s ∷ sites) at e = cond_nothing (is_place (Some s.path) at) (disk_of s) (stands_in sites at) (nothing_cases s.count s.blocks s.times s.settled) (nothing_stands sites at) e

pub nothing_outside : (d : Devices) (path : List ℕ) → ((outside d).stands (Some path)).there ≡ false → (outside d).stands (Some path) ≡ nothing
nothing_outside d path e =
    let is : (outside d).stands (Some path) ≡ stands_in d.sites.items (Some path) = ap (λ (s : Outside). s.stands (Some path)) (sym (seen (contents_of d) d.began d.changes.items)) in
    is ∙ nothing_stands d.sites.items (Some path) (sym (ap (λ (e : Disk). e.there) is) ∙ e)
