-- Images and scripts are put, and the clock begins anew.
use Rattle.std.proofs.Common.{◌≡◌, ⊎_elim, ℕ, ◌<◌, true, false, cond, List, [], ◌∷◌, ◌++◌, length, set, drop, Option, Some, None, Result, Ok, Err, OnOk, OnErr, refl, sym, ◌∙◌, ap}
use Rattle.std.proofs.lemmas.Bool.{cond-true, cond-false, cases_Bool}
use Rattle.std.proofs.lemmas.List.{get_or_append_left}
use Rattle.std.specs.Option.{option_or}
use Rattle.std.specs.Str.{bytes_eq}
use Rattle.tm_world.specs.Disk.{Disk, nothing}
use Rattle.tm_world.specs.Outside.{Outside, put_at}
use Rattle.tm_world.specs.Log.{now}
use Rattle.tm_memworld.specs.declared.change.Change.{Change}
use Rattle.tm_memworld.specs.Script.{ScriptView, scripts_in, left_in}
use Rattle.tm_memworld.specs.Site.{SiteView, disk_of}
use Rattle.tm_memworld.specs.Sites.{path_at, room_at, IsFirst, IsNowhere}
use Rattle.tm_memworld.specs.Contents.{Contents, view}
use Rattle.tm_memworld.specs.Change.{log_in}
use Rattle.tm_memworld.specs.Putting.{with_script, with_room, placed}
use Rattle.tm_memworld.proofs.Scripts.{scripts_in-push}
use Rattle.tm_memworld.specs.Change.{now-log_in}
use Rattle.tm_memworld.proofs.Views.{view-set, view-push, room-set, room-push}

-- what is outside, whatever the clock shows
pub now-any : (changes : List Change) (began : ℕ) (c : Contents) → now (log_in (drop began changes) c) ≡ view c
now-any changes began c = now-log_in (drop began changes) c

scripts-push : (scripts : List ScriptView) (s : ScriptView) (path : List ℕ) → scripts_in (scripts ++ s ∷ []) path ≡ cond (bytes_eq s.path path) (Some s.text) (scripts_in scripts path)
scripts-push scripts s path = scripts_in-push scripts s path ∙ ⊎_elim
    (λ (here : bytes_eq s.path path ≡ true). (λ i. option_or (cond (here i) (Some s.text) None) (scripts_in scripts path)) ∙ sym (cond-true _ (Some s.text) (scripts_in scripts path) here))
    (λ (not : bytes_eq s.path path ≡ false). (λ i. option_or (cond (not i) (Some s.text) None) (scripts_in scripts path)) ∙ sym (cond-false _ (Some s.text) (scripts_in scripts path) not))
    (cases_Bool (bytes_eq s.path path))

left-push : (scripts : List ScriptView) (s : ScriptView) (script : Option ℕ) (position : ℕ) → ((i : ℕ) → script ≡ Some i → i < length scripts) → left_in (scripts ++ s ∷ []) script position ≡ left_in scripts script position
left-push scripts s None position within = refl
left-push scripts s (Some i) position within = ap (λ (t : ScriptView). drop position t.text) (get_or_append_left scripts (s ∷ []) (record { path = []; text = [] }) i (within i refl))

-- a script is put
pub view-script : (c : Contents) (path text : List ℕ) → ((i : ℕ) → c.script ≡ Some i → i < length c.scripts)
    → view (record c { scripts = c.scripts ++ record { path = path; text = text } ∷ [] }) ≡ with_script path text (view c)
view-script c path text within = λ j. record (view c) {
  scripts = λ at. scripts-push c.scripts (record { path = path; text = text }) at j;
  unread = left-push c.scripts (record { path = path; text = text }) c.script c.position within j;
}

module _ (c : Contents) (changes : List Change) (began later : ℕ) (t : SiteView) where
  -- a site takes the place of the one of its path
  pub put_set : (i : ℕ) → IsFirst c.sites i → t.path ≡ path_at c.sites i
      → now (log_in (drop later changes) (record c { sites = set c.sites i t })) ≡ put_at (Some t.path) (disk_of t) (now (log_in (drop began changes) c))
  put_set i first same = now-any changes later (record c { sites = set c.sites i t }) ∙ view-set c i t first same
      ∙ (λ j. put_at (Some (sym same j)) (disk_of t) (sym (now-any changes began c) j))

  pub put_push : (sites : List SiteView) → sites ≡ c.sites ++ t ∷ [] → ((k : ℕ) → c.volume ≡ Some k → IsFirst c.sites k) → ((k : ℕ) → c.store ≡ Some k → IsFirst c.sites k) → IsNowhere c.sites t.path
      → now (log_in (drop later changes) (record c { sites = sites })) ≡ put_at (Some t.path) (disk_of t) (now (log_in (drop began changes) c))
  put_push sites is volume_first store_first nowhere = now-any changes later (record c { sites = sites }) ∙ ap (λ xs. view (record c { sites = xs })) is
      ∙ view-push c t volume_first store_first nowhere ∙ ap (put_at (Some t.path) (disk_of t)) (sym (now-any changes began c))

pub room_after_set : (sites : List SiteView) (i : ℕ) (t : SiteView) → IsFirst sites i → t.path ≡ path_at sites i → room_at (set sites i t) ≡ with_room t.path (length t.blocks) (room_at sites)
room_after_set sites i t first same = λ j path. (room-set sites i t path first same ∙ ap (λ p. cond (bytes_eq p path) (length t.blocks) (room_at sites path)) (sym same)) j

pub room_after_push : (sites more : List SiteView) (t : SiteView) → more ≡ sites ++ t ∷ [] → IsNowhere sites t.path → room_at more ≡ with_room t.path (length t.blocks) (room_at sites)
room_after_push sites more t is nowhere = λ j path. (ap (λ xs. room_at xs path) is ∙ room-push sites t path nowhere) j

-- where nothing stands, putting nothing changes nothing
pub placed-there : (path : List ℕ) (n : ℕ) (places : List ℕ → ℕ) (s : Outside) → (s.stands (Some path)).there ≡ true → placed path n places s ≡ places
placed-there path n places s there = cond-true _ places (with_room path n places) there

pub placed-none : (path : List ℕ) (n : ℕ) (places : List ℕ → ℕ) (s : Outside) → s.stands (Some path) ≡ nothing → placed path n places s ≡ with_room path n places
placed-none path n places s none = cond-false _ places (with_room path n places) (ap (λ (d : Disk). d.there) none)

-- put or not, the outside is as it was
pub either_way : {T E : Type 0} (result : Result T E) (new put old : Outside) → OnOk result (new ≡ put) → OnErr result (new ≡ old) → put ≡ old → new ≡ old
either_way (Ok v) new put old ok err same = ok ∙ same
either_way (Err e) new put old ok err same = err
