-- The clock goes on by a change.
use Rattle.std.proofs.Common.{◌≡◌, ◌≢◌, ⊎_elim, ℕ, zero, suc, ◌+◌, ◌<◌, ◌≤◌, List, [], ◌∷◌, ◌++◌, length, get_or, set, drop, Option, Some, None, refl, sym, ◌∙◌, ap, subst, arith}
use Rattle.std.proofs.lemmas.Bool.{cases_eq, cases_lt}
use Rattle.std.proofs.lemmas.List.{get_or-set_same, get_or-set_other, set_past, get_or_read, drop-drop}
use Rattle.tm_base.specs.Limits.{max_blocks}
use Rattle.tm_world.specs.Disk.{Disk, nothing, written, synced}
use Rattle.tm_world.specs.Outside.{Outside, disk, put_disk, took, spoke}
use Rattle.tm_world.specs.Log.{now, Steps}
use Rattle.tm_world.specs.declared.world.Side.{Side}
use Rattle.tm_world.specs.declared.world.Side.TheVariants.{Volume, Store}
use Rattle.tm_world.proofs.Sides.{put_disk_same}
use Rattle.tm_memworld.specs.declared.change.Change.{Change}
use Rattle.tm_memworld.specs.declared.change.Change.TheVariants.{Wrote, Loosened, Synced, Took, Said}
use Rattle.tm_memworld.specs.Torn.{loosened}
use Rattle.tm_memworld.specs.Script.{ScriptView, text_at, left_in}
use Rattle.tm_memworld.specs.Site.{SiteView, blank, disk_of, zero_block, IsBy}
use Rattle.tm_memworld.specs.Sites.{site_at, path_at, IsFirst, AreSmall}
use Rattle.tm_memworld.specs.Contents.{Contents, view, attached_at}
use Rattle.tm_memworld.specs.Change.{back, log_in}
use Rattle.tm_memworld.specs.Change.{now-log_in}
use Rattle.tm_memworld.proofs.Record.{Steps-noted}
use Rattle.tm_memworld.proofs.Views.{stands_at, disk-view, disk-view_none, view-set_disk}
use Rattle.tm_memworld.proofs.Undo.{undo_write, undo_loosen, undo_sync, undo_took, undo_said}

pub count-loosened : (block : ℕ) (d : Disk) → (loosened block d).count ≡ d.count
unfolding loosened
count-loosened block d = refl

left_in-took : (scripts : List ScriptView) (script : Option ℕ) (position n : ℕ) → left_in scripts script (position + n) ≡ drop n (left_in scripts script position)
left_in-took scripts None position zero = refl
left_in-took scripts None position (suc n) = refl
left_in-took scripts (Some i) position n = sym (drop-drop n position (text_at scripts i))

view-took : (n : ℕ) (c : Contents) → view (record c { position = c.position + n }) ≡ took n (view c)
unfolding took
view-took n c = λ j. record (view c) { unread = left_in-took c.scripts c.script c.position n j }

-- a side's site is the first of its path
pub first_of : (side : Side) (c : Contents) (i : ℕ) → ((k : ℕ) → c.volume ≡ Some k → IsFirst c.sites k) → ((k : ℕ) → c.store ≡ Some k → IsFirst c.sites k)
    → attached_at side c ≡ Some i → IsFirst c.sites i
first_of Volume c i volume_first store_first at = volume_first i at
first_of Store c i volume_first store_first at = store_first i at

-- a site as it is read is the site of its number
pub site_is : (sites : List SiteView) (i : ℕ) (s : SiteView) → i < length sites → s ≡ get_or sites i s → s ≡ site_at sites i
site_is sites i s lt is = get_or_read sites i s lt is (blank [] 0)

pub small_at : (sites : List SiteView) (i : ℕ) (s : SiteView) → AreSmall sites → IsFirst sites i → s ≡ site_at sites i → (disk_of s).count ≤ max_blocks
small_at sites i s small first is = subst (λ d. d.count ≤ max_blocks) (stands_at sites i first ∙ ap disk_of (sym is)) (small.each (Some (path_at sites i)))

le-set : (xs : List ℕ) (i v b bound : ℕ) → v ≤ bound → get_or xs b 0 ≤ bound → get_or (set xs i v) b 0 ≤ bound
le-set xs i v b bound new old = ⊎_elim
    (λ (here : b ≡ i). ⊎_elim
    (λ (lt : i < length xs). let is : get_or (set xs i v) b 0 ≡ v = ap (λ k. get_or (set xs i v) k 0) here ∙ get_or-set_same xs i v 0 lt in omega arith)
    (λ (le : length xs ≤ i). let is : get_or (set xs i v) b 0 ≡ get_or xs b 0 = ap (λ ys. get_or ys b 0) (set_past xs i v le) in omega arith)
    (cases_lt i (length xs)))
    (λ (ne : b ≢ i). let is : get_or (set xs i v) b 0 ≡ get_or xs b 0 = get_or-set_other xs i b v 0 ne in omega arith)
    (cases_eq b i)

-- a site after a write at a time
pub by_timed : (s : SiteView) (t : SiteView) (block time before : ℕ) → t.settled ≡ s.settled → t.times ≡ set s.times block time → before ≤ time → IsBy before s → IsBy time t
by_timed s t block time before settled times le by = record {
  settled = omega (arith, by.settled);
  written = λ b. subst (λ xs. get_or xs b 0 ≤ time) (sym times) (le-set s.times block time b time (omega arith) (omega (arith, by.written b)));
}

pub by_settled : (s : SiteView) (t : SiteView) (time before : ℕ) → t.settled ≡ time → t.times ≡ s.times → before ≤ time → IsBy before s → IsBy time t
by_settled s t time before settled times le by = record {
  settled = omega arith;
  written = λ b. subst (λ xs. get_or xs b 0 ≤ time) (sym times) (omega (arith, by.written b));
}

module _ (c : Contents) (began : ℕ) (changes : List Change) where
  pub seen : view c ≡ now (log_in (drop began changes) c)
  seen = sym (now-log_in (drop began changes) c)

  -- the disk of a side is that of its site
  pub disk_is : (side : Side) (i : ℕ) (s : SiteView) → attached_at side c ≡ Some i → IsFirst c.sites i → s ≡ site_at c.sites i → disk side (now (log_in (drop began changes) c)) ≡ disk_of s
  disk_is side i s at first is = ap (disk side) (sym seen) ∙ disk-view side c i at first ∙ ap disk_of (sym is)

  pub none_there : (side : Side) → attached_at side c ≡ None → disk side (now (log_in (drop began changes) c)) ≡ nothing
  none_there side at = ap (disk side) (sym seen) ∙ disk-view_none side c at

  -- a side that is not attached has no block
  pub no_block : (side : Side) (block : ℕ) → attached_at side c ≡ None → block < (disk side (now (log_in (drop began changes) c))).count → ⊥
  no_block side block at lt = absurd (omega (arith, ap (λ (d : Disk). d.count) (none_there side at)))

  module _ (more : List Change) (begun : began ≤ length changes) where
    -- a change after which the outside is this function of what it was
    pub noted : (change : Change) (later : Contents) (f : Outside → Outside) → more ≡ changes ++ change ∷ [] → back change later ≡ c → view later ≡ f (view c)
        → Steps (log_in (drop began changes) c) (log_in (drop began more) later) (f (now (log_in (drop began changes) c)))
    noted change later f is undone view_is = Steps-noted began changes more change c later _ begun is undone (view_is ∙ ap f seen)

    module _ (side : Side) (i : ℕ) (s t : SiteView) (at : attached_at side c ≡ Some i) (first : IsFirst c.sites i) (is : s ≡ site_at c.sites i) (path : t.path ≡ s.path) where
      same_path : t.path ≡ path_at c.sites i
      same_path = path ∙ ap (λ (u : SiteView). u.path) is

      -- the disk of the side is a function of what it was
      view_is : (f : Disk → Disk) → disk_of t ≡ f (disk_of s) → view (record c { sites = set c.sites i t }) ≡ put_disk side (f (disk side (view c))) (view c)
      view_is f disk_then = view-set_disk side c i t at first same_path ∙ ap (λ d. put_disk side d (view c)) (disk_then ∙ ap f (ap disk_of is ∙ sym (disk-view side c i at first)))

      pub write_steps : (block : ℕ) (bytes : List ℕ) (time before : ℕ) (was : List ℕ) (saved : List (List ℕ)) → t ≡ record s { blocks = set s.blocks block bytes; times = set s.times block time }
          → disk_of t ≡ written block bytes (disk_of s) → before ≡ get_or s.times block 0 → was ≡ get_or s.blocks block zero_block → saved ≡ c.saved ++ was ∷ [] → more ≡ changes ++ Wrote i block before ∷ []
          → Steps (log_in (drop began changes) c) (log_in (drop began more) (record c { sites = set c.sites i t; saved = saved }))
          (put_disk side (written block bytes (disk side (now (log_in (drop began changes) c)))) (now (log_in (drop began changes) c)))
      write_steps block bytes time before was saved put disk_then before_is was_is saved_is noted_is =
          noted (Wrote i block before) (record c { sites = set c.sites i t; saved = saved }) (λ o. put_disk side (written block bytes (disk side o)) o) noted_is
          ((λ j. back (Wrote i block (before_is j)) (record c { sites = set c.sites i t; saved = (saved_is ∙ ap (λ w. c.saved ++ w ∷ []) was_is) j })) ∙ undo_write c i s t first.within is block bytes time put)
          (view_is (written block bytes) disk_then)

      pub loosen_steps : (block time before : ℕ) → t ≡ record s { times = set s.times block time } → disk_of t ≡ loosened block (disk_of s) → before ≡ get_or s.times block 0 → more ≡ changes ++ Loosened i block before ∷ []
          → Steps (log_in (drop began changes) c) (log_in (drop began more) (record c { sites = set c.sites i t }))
          (put_disk side (loosened block (disk side (now (log_in (drop began changes) c)))) (now (log_in (drop began changes) c)))
      loosen_steps block time before put disk_then before_is noted_is =
          noted (Loosened i block before) (record c { sites = set c.sites i t }) (λ o. put_disk side (loosened block (disk side o)) o) noted_is
          (ap (λ b. back (Loosened i block b) (record c { sites = set c.sites i t })) before_is ∙ undo_loosen c i s t first.within is block time put)
          (view_is (loosened block) disk_then)

      pub sync_steps : (time before : ℕ) → t ≡ record s { settled = time } → disk_of t ≡ synced (disk_of s) → before ≡ s.settled → more ≡ changes ++ Synced i before ∷ []
          → Steps (log_in (drop began changes) c) (log_in (drop began more) (record c { sites = set c.sites i t }))
          (put_disk side (synced (disk side (now (log_in (drop began changes) c)))) (now (log_in (drop began changes) c)))
      sync_steps time before put disk_then before_is noted_is =
          noted (Synced i before) (record c { sites = set c.sites i t }) (λ o. put_disk side (synced (disk side o)) o) noted_is
          (ap (λ b. back (Synced i b) (record c { sites = set c.sites i t })) before_is ∙ undo_sync c i s t first.within is time put)
          (view_is synced disk_then)

    pub say_steps : (bytes said : List ℕ) → said ≡ c.said ++ bytes → more ≡ changes ++ Said (length bytes) ∷ []
        → Steps (log_in (drop began changes) c) (log_in (drop began more) (record c { said = said })) (spoke bytes (now (log_in (drop began changes) c)))
    unfolding spoke
    say_steps bytes said said_is noted_is = noted (Said (length bytes)) (record c { said = said }) (spoke bytes) noted_is
        (ap (λ xs. back (Said (length bytes)) (record c { said = xs })) said_is ∙ undo_said bytes c) (ap (λ xs. view (record c { said = xs })) said_is)

    pub take_steps : (n position : ℕ) → position ≡ c.position + n → more ≡ changes ++ Took n ∷ []
        → Steps (log_in (drop began changes) c) (log_in (drop began more) (record c { position = position })) (took n (now (log_in (drop began changes) c)))
    take_steps n position position_is noted_is = noted (Took n) (record c { position = position }) (took n) noted_is
        (ap (λ p. back (Took n) (record c { position = p })) position_is ∙ undo_took n c) (ap (λ p. view (record c { position = p })) position_is ∙ view-took n c)

synced-nothing : synced nothing ≡ nothing
unfolding synced
synced-nothing = refl

-- a side that is not attached has nothing to sync
pub sync_nothing : (side : Side) (s : Outside) → disk side s ≡ nothing → s ≡ put_disk side (synced (disk side s)) s
sync_nothing side s none = sym (put_disk_same side s) ∙ ap (λ d. put_disk side d s) (none ∙ sym synced-nothing ∙ ap synced (sym none))
