-- A side or a script is attached.
use Rattle.std.proofs.Common.{◌≡◌, ⊎_elim, ℕ, ◌≤◌, true, false, cond, List, [], ◌∷◌, ◌++◌, length, set, drop, Option, Some, None, unwrap_or, refl, sym, ◌∙◌, ap, subst}
use Rattle.std.proofs.lemmas.Bool.{cond-true, cond-false, cases_Bool}
use Rattle.tm_world.specs.Disk.{Disk, nothing, zeros}
use Rattle.tm_world.specs.Outside.{Outside, Place, is_place, place, disk, put_at, made, with_place, attached, part_of}
use Rattle.tm_world.specs.Log.{now, Steps}
use Rattle.tm_world.specs.Runs.{other}
use Rattle.tm_world.specs.declared.world.Side.{Side}
use Rattle.tm_world.specs.declared.world.Side.TheVariants.{Volume, Store}
use Rattle.tm_world.proofs.Sides.{is_place-true}
use Rattle.tm_memworld.specs.declared.change.Change.{Change}
use Rattle.tm_memworld.specs.declared.change.Change.TheVariants.{Attached, Started}
use Rattle.tm_memworld.specs.declared.change.Opened.TheVariants.{Found, Made, Named}
use Rattle.tm_memworld.specs.Script.{text_at, scripts_in}
use Rattle.tm_world.specs.declared.world.Part.TheVariants.{Script}
use Rattle.tm_memworld.specs.Site.{SiteView, disk_of}
use Rattle.tm_memworld.specs.Sites.{site_at, path_at, IsFirst, IsNowhere}
use Rattle.tm_memworld.specs.Contents.{Contents, view, attached_at, attached_after, with_attached}
use Rattle.tm_memworld.specs.Change.{log_in}
use Rattle.tm_memworld.proofs.Views.{view-set, view-push, path-set, path_last, stands_nowhere}
use Rattle.tm_memworld.proofs.Undo.{undo_found, undo_made, undo_named}
use Rattle.tm_memworld.proofs.Going.{noted}

-- both sides' sites after one is attached
pub with_attached-after : (side : Side) (i : ℕ) (c : Contents) → record c { volume = attached_after Volume side i c.volume; store = attached_after Store side i c.store } ≡ with_attached side (Some i) c
with_attached-after Volume i c = refl
with_attached-after Store i c = refl

pub first_after : (which side : Side) (sites : List SiteView) (i : ℕ) (was : Option ℕ) (k : ℕ) → IsFirst sites i → ((x : ℕ) → was ≡ Some x → IsFirst sites x) → attached_after which side i was ≡ Some k → IsFirst sites k
first_after Volume Volume sites i was k first before is = let same : i ≡ k = cc in subst (IsFirst sites) same first
first_after Volume Store sites i was k first before is = before k is
first_after Store Volume sites i was k first before is = before k is
first_after Store Store sites i was k first before is = let same : i ≡ k = cc in subst (IsFirst sites) same first

view-with_attached : (side : Side) (i : ℕ) (c : Contents) → view (with_attached side (Some i) c) ≡ with_place side (Some (path_at c.sites i)) (view c)
view-with_attached Volume i c = refl
view-with_attached Store i c = refl

module _ (c : Contents) (began : ℕ) (changes more : List Change) (begun : began ≤ length changes) (side : Side) (i : ℕ) where
  pub found_steps : more ≡ changes ++ Attached side (attached_at side c) Found ∷ []
      → Steps (log_in (drop began changes) c) (log_in (drop began more) (with_attached side (Some i) c)) (with_place side (Some (path_at c.sites i)) (now (log_in (drop began changes) c)))
  found_steps is = noted c began changes more begun (Attached side (attached_at side c) Found) (with_attached side (Some i) c) (with_place side (Some (path_at c.sites i))) is (undo_found side i c) (view-with_attached side i c)

  pub made_steps : (s t : SiteView) (n : ℕ) → IsFirst c.sites i → s ≡ site_at c.sites i → s.count ≡ None → t ≡ record s { count = Some n } → disk_of t ≡ zeros n
      → more ≡ changes ++ Attached side (attached_at side c) Made ∷ []
      → Steps (log_in (drop began changes) c) (log_in (drop began more) (with_attached side (Some i) (record c { sites = set c.sites i t })))
      (with_place side (Some (path_at c.sites i)) (put_at (Some (path_at c.sites i)) (zeros n) (now (log_in (drop began changes) c))))
  made_steps s t n first is none opened disk_then noted_is =
      let path : t.path ≡ path_at c.sites i = ap (λ (u : SiteView). u.path) opened ∙ ap (λ (u : SiteView). u.path) is in
      noted c began changes more begun (Attached side (attached_at side c) Made) (with_attached side (Some i) (record c { sites = set c.sites i t }))
      (λ o. with_place side (Some (path_at c.sites i)) (put_at (Some (path_at c.sites i)) (zeros n) o)) noted_is
      (undo_made c i s t first.within is side n none opened)
      (view-with_attached side i (record c { sites = set c.sites i t })
      ∙ (λ j. with_place side (Some (path-set c.sites i t i first.within path j)) ((view-set c i t first path ∙ ap (λ d. put_at (Some (path_at c.sites i)) d (view c)) disk_then) j)))

same_stands : (p : Place) (d : Disk) (s : Outside) → s.stands p ≡ d → (at : Place) → cond (is_place p at) d (s.stands at) ≡ s.stands at
same_stands p d s is at = ⊎_elim
    (λ (here : is_place p at ≡ true). cond-true (is_place p at) d (s.stands at) here ∙ sym is ∙ ap s.stands (is_place-true p at here))
    (λ (not : is_place p at ≡ false). cond-false (is_place p at) d (s.stands at) not)
    (cases_Bool (is_place p at))

pub put_at-same : (p : Place) (d : Disk) (s : Outside) → s.stands p ≡ d → put_at p d s ≡ s
put_at-same p d s is = λ j. record s { stands = λ at. same_stands p d s is at j }

-- a new site at which nothing stands changes nothing outside
pub view-named : (c : Contents) (t : SiteView) → ((k : ℕ) → c.volume ≡ Some k → IsFirst c.sites k) → ((k : ℕ) → c.store ≡ Some k → IsFirst c.sites k) → IsNowhere c.sites t.path → disk_of t ≡ nothing
    → view (record c { sites = c.sites ++ t ∷ [] }) ≡ view c
view-named c t volume_first store_first nowhere none =
    view-push c t volume_first store_first nowhere ∙ ap (λ d. put_at (Some t.path) d (view c)) none ∙ put_at-same (Some t.path) nothing (view c) (stands_nowhere c.sites t.path nowhere)

pub named_steps : (c : Contents) (began : ℕ) (changes more : List Change) → began ≤ length changes → (side : Side) (t : SiteView)
    → ((k : ℕ) → c.volume ≡ Some k → IsFirst c.sites k) → ((k : ℕ) → c.store ≡ Some k → IsFirst c.sites k) → IsNowhere c.sites t.path → disk_of t ≡ nothing
    → more ≡ changes ++ Attached side (attached_at side c) Named ∷ []
    → Steps (log_in (drop began changes) c) (log_in (drop began more) (with_attached side (Some (length c.sites)) (record c { sites = c.sites ++ t ∷ [] }))) (with_place side (Some t.path) (now (log_in (drop began changes) c)))
named_steps c began changes more begun side t volume_first store_first nowhere none noted_is =
    noted c began changes more begun (Attached side (attached_at side c) Named) (with_attached side (Some (length c.sites)) (record c { sites = c.sites ++ t ∷ [] }))
    (with_place side (Some t.path)) noted_is (undo_named side t (length c.sites) c)
    (view-with_attached side (length c.sites) (record c { sites = c.sites ++ t ∷ [] })
    ∙ (λ j. with_place side (Some (path_last c.sites t j)) (view-named c t volume_first store_first nowhere none j)))

pub sites-with_attached : (side : Side) (at : Option ℕ) (c : Contents) → (with_attached side at c).sites ≡ c.sites
sites-with_attached Volume at c = refl
sites-with_attached Store at c = refl

pub attached_at-sites : (side : Side) (c : Contents) (sites : List SiteView) → attached_at side (record c { sites = sites }) ≡ attached_at side c
attached_at-sites Volume c sites = refl
attached_at-sites Store c sites = refl

-- the script that stands at a path is attached
pub script_steps : (c : Contents) (began : ℕ) (changes more : List Change) → began ≤ length changes → (i : ℕ) (path : List ℕ) (create : Option ℕ) → Some (text_at c.scripts i) ≡ scripts_in c.scripts path
    → more ≡ changes ++ Started c.script c.position ∷ []
    → Steps (log_in (drop began changes) c) (log_in (drop began more) (record c { script = Some i; position = 0 })) (attached Script path create (now (log_in (drop began changes) c)))
unfolding attached
script_steps c began changes more begun i path create is noted_is =
    noted c began changes more begun (Started c.script c.position) (record c { script = Some i; position = 0 }) (attached Script path create) noted_is refl
    (λ j. record (view c) { unread = ap (λ o. unwrap_or o []) is j })

-- what attaching makes of the outside: where something stands, where nothing does and nothing is made, and where an image is made
pub attached-standing : (side : Side) (path : List ℕ) (create : Option ℕ) (s : Outside) → (s.stands (Some path)).there ≡ true → with_place side (Some path) s ≡ attached (part_of side) path create s
unfolding attached
attached-standing Volume path create s there = ap (with_place Volume (Some path)) (sym (cond-true _ s (put_at (Some path) (made create) s) there))
attached-standing Store path create s there = ap (with_place Store (Some path)) (sym (cond-true _ s (put_at (Some path) (made create) s) there))

not_there : (path : List ℕ) (s : Outside) → s.stands (Some path) ≡ nothing → (s.stands (Some path)).there ≡ false
not_there path s none = ap (λ (d : Disk). d.there) none

pub attached-none : (side : Side) (path : List ℕ) (s : Outside) → s.stands (Some path) ≡ nothing → with_place side (Some path) s ≡ attached (part_of side) path None s
unfolding attached
attached-none Volume path s none = ap (with_place Volume (Some path)) (sym (cond-false _ s (put_at (Some path) nothing s) (not_there path s none) ∙ put_at-same (Some path) nothing s none))
attached-none Store path s none = ap (with_place Store (Some path)) (sym (cond-false _ s (put_at (Some path) nothing s) (not_there path s none) ∙ put_at-same (Some path) nothing s none))

pub attached-made : (side : Side) (path : List ℕ) (n : ℕ) (s : Outside) → s.stands (Some path) ≡ nothing → with_place side (Some path) (put_at (Some path) (zeros n) s) ≡ attached (part_of side) path (Some n) s
unfolding attached
attached-made Volume path n s none = ap (with_place Volume (Some path)) (sym (cond-false _ s (put_at (Some path) (zeros n) s) (not_there path s none)))
attached-made Store path n s none = ap (with_place Store (Some path)) (sym (cond-false _ s (put_at (Some path) (zeros n) s) (not_there path s none)))

pub disk-with_place : (side : Side) (p : Place) (s : Outside) → disk side (with_place side p s) ≡ s.stands p
unfolding disk
disk-with_place Volume p s = refl
disk-with_place Store p s = refl

pub disk_other-with_place : (side : Side) (p : Place) (s : Outside) → disk (other side) (with_place side p s) ≡ disk (other side) s
unfolding disk
disk_other-with_place Volume p s = refl
disk_other-with_place Store p s = refl

-- an image that is made elsewhere
pub disk-put_at_other : (side : Side) (p : Place) (d : Disk) (s : Outside) → is_place p (place side s) ≡ false → disk side (put_at p d s) ≡ disk side s
unfolding disk
disk-put_at_other Volume p d s ne = cond-false (is_place p s.volume) d (s.stands s.volume) ne
disk-put_at_other Store p d s ne = cond-false (is_place p s.store) d (s.stands s.store) ne
