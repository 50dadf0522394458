-- The entries of a folder, made one after another.
use Rattle.std.proofs.Common.{◌≡◌, ℕ, ◌+◌, ◌-◌, ◌≤◌, true, Option, List, [], ◌∷◌, ◌++◌, length, map, Result, Ok, Err, refl, sym, ap, ◌∙◌, subst, arith, append_assoc, append-nil, length-append}
use Rattle.std.specs.List.{flat_map}
use Rattle.std.proofs.lemmas.List.{map-append}
use Rattle.tm_base.specs.Paths.{Names}
use Rattle.tm_base.specs.declared.refused.LineFault.{LineFault}
use Rattle.tm_blockmap.specs.Counts.{times}
use Rattle.tm_world.specs.Log.{Log, now}
use Rattle.tm_graph.specs.Nodes.{Nodes, greatest}
use Rattle.tm_tree.specs.declared.node.Child.{Child}
use Rattle.tm_tree.specs.Trees.{Tree, IsTree, folder_at}
use Rattle.tm_image.specs.Room.{free_of}
use Rattle.tm_store_records.specs.Held.{Held}
use Rattle.tm_volume.specs.Seen.{Seen}
use Rattle.tm_copy.specs.Making.{Making}
use Rattle.tm_copy.specs.Driving.{base_child}
use Rattle.tm_copy.specs.Building.{Backup, next, IsSound, AreNew, Builds, AreBuilt}
use Rattle.tm_copy.proofs.Finishes.{entry_is_built}
use Rattle.tm_backup.specs.declared.stage.PlannedEntry.{PlannedEntry}
use Rattle.tm_backup.specs.Answers.{Stages}
use Rattle.tm_backup.specs.Growing.{Suits, Grows, counted}
use Rattle.tm_backup.specs.EntryPlans.{plan_blocks, owed, IsPlanned, ArePlanned}
use Rattle.tm_backup.specs.Steps.{MayGo, Ran, Went, store_bytes}
use Rattle.tm_backup.specs.Taking.{view_on, prev_on, backup_of}
use Rattle.tm_backup.specs.Walking.{entry_folders, entry_staging, MayEnter, MayEnterAll, IsBegun, EntryGrows, EntriesGrow}
use Rattle.tm_backup.proofs.Folding.{suits_then, plans_stay, owed-cons, table_of}
use Rattle.tm_backup.proofs.Growth.{grown_none, grown_then, grown_due}
use Rattle.tm_backup.proofs.Keeping.{sound_of}
use Rattle.tm_backup.proofs.Looks.{view_listed}
use Rattle.tm_backup.proofs.Staging.{Onward, onward_start, onward_next, onward_err, onward_end}
use Rattle.tm_backup.proofs.Stepping.{may_then, ran_none, went_none, ran_then, went_then}

-- ---- what stays the same

-- a later store and volume back up alike
pub backup_now : (told : Type 0) (v w : Seen) (s t : Held) (l m : Log) → Ran told v w s t l m → Went told s t l m → (files : ℕ → List ℕ) (root : Option ℕ) (bytes : ℕ → List ℕ) → backup_of t files root (view_on w bytes) ≡ backup_of s files root (view_on v bytes)
backup_now told v w s t l m ran went files root bytes = λ i. backup_of (went.same i) files root (view_listed v w w.looks ran.volume bytes i)

pub begun_now : (told : Type 0) (s t : Held) (l m : Log) (x : Making) → Went told s t l m → IsBegun t x → IsBegun s x
begun_now told s t l m x went h = record { label = h.label ∙ ap (λ (y : Held). y.number) went.same; first = h.first ∙ ap (λ (y : Held). greatest y.nodes + 1) went.same }

pub begun_later : (told : Type 0) (s t : Held) (l m : Log) (x : Making) → Went told s t l m → IsBegun s x → IsBegun t x
begun_later told s t l m x went h = record { label = h.label ∙ sym (ap (λ (y : Held). y.number) went.same); first = h.first ∙ sym (ap (λ (y : Held). greatest y.nodes + 1) went.same) }

-- what may be entered
pub enter_later : (told : Type 0) (v w : Seen) (s t : Held) (l m : Log) (p : Names) (base : Option ℕ) (x : PlannedEntry) → Ran told v w s t l m → Went told s t l m → MayEnter v s.nodes p base x → MayEnter w t.nodes p base x
enter_later told v w s t l m p base x ran went h = record {
  below = h.below ∙ sym (ap (λ (y : Held). base_child y.nodes base x.name) went.same);
  shown = λ is bytes. subst (λ (u : Tree). folder_at u (p ++ x.name ∷ []) ≡ true) (sym (view_listed v w w.looks ran.volume bytes)) (h.shown is bytes);
}

pub enter_all : (told : Type 0) (v w : Seen) (s t : Held) (l m : Log) (p : Names) (base : Option ℕ) (xs : List PlannedEntry) → Ran told v w s t l m → Went told s t l m → MayEnterAll v s.nodes p base xs → MayEnterAll w t.nodes p base xs
enter_all told v w s t l m p base [] ran went h = tt
enter_all told v w s t l m p base (x ∷ xs) ran went h = (enter_later told v w s t l m p base x ran went h.0, enter_all told v w s t l m p base xs ran went h.1)

-- counts that stand still
pub counted_then : (w a b : ℕ) → counted (counted w a) b ≡ counted w (a + b)
counted_then w a b = omega arith

pub counted_zero : (w b : ℕ) → counted w b ≡ counted (counted w 0) b
counted_zero w b = omega arith

-- ---- the loop

-- how far the entries of a folder were made
pub record Far (told : Type 0) (v w : Seen) (s t : Held) (l m : Log) (p : Names) (base : Option ℕ) (planned left : List PlannedEntry) (old new : Making) (walked0 walked : ℕ) (entries : List Child) : Type 0 where
  pub ran : Ran told v w s t l m
  pub went : Went told s t l m
  pub stages : (root : Option ℕ) (files bytes : ℕ → List ℕ) → Suits told s l p base root bytes
      → Onward (table_of s) (free_of s.image) (free_of t.image) (flat_map (entry_staging (prev_on s files root) (view_on v bytes) p) planned) (flat_map (entry_staging (prev_on s files root) (view_on v bytes) p) left)
  pub grows : (root : Option ℕ) (files bytes fresh : ℕ → List ℕ) → Suits told s l p base root bytes
      → let b = backup_of s files root (view_on v bytes) in AreNew b old.nodes → ArePlanned told b (store_bytes l) p planned
      → Grows told b (store_bytes m) old new (λ k. owed planned k - owed left k) s.staged t.staged fresh (λ other. AreBuilt b new.nodes other p (next b old.nodes) entries (next b new.nodes))
  pub plans : (root : Option ℕ) (files bytes : ℕ → List ℕ) → Suits told s l p base root bytes
      → let b = backup_of s files root (view_on v bytes) in ArePlanned told b (store_bytes l) p planned → ArePlanned told b (store_bytes m) p left
  pub names : map (λ (c : Child). c.name) entries ++ map (λ (x : PlannedEntry). x.name) left ≡ map (λ (x : PlannedEntry). x.name) planned
  pub enter : MayEnterAll v s.nodes p base left
  pub begun : IsBegun s new
  pub counts : (bytes : ℕ → List ℕ) → counted walked (length (flat_map (entry_folders (view_on v bytes) p) left)) ≡ counted walked0 (length (flat_map (entry_folders (view_on v bytes) p) planned))
  pub less : (k : ℕ) → owed left k ≤ owed planned k

module _ {told : Type 0} {v : Seen} {s : Held} {l : Log} {a0 b0 : ℕ} (may : MayGo told v s (now l) a0 b0) {p : Names} {base : Option ℕ} {planned : List PlannedEntry} {old : Making} {walked0 : ℕ} (due : (k : ℕ) → owed planned k ≤ times k s.staged) where
  pub far_start : MayEnterAll v s.nodes p base planned → IsBegun s old → Far told v v s s l l p base planned planned old old walked0 walked0 []
  far_start enter begun = record {
    ran = ran_none told v s l;
    went = went_none told v s l a0 b0 may;
    stages = λ root files bytes suits. onward_start (table_of s) (free_of s.image) (flat_map (entry_staging (prev_on s files root) (view_on v bytes) p) planned);
    grows = λ root files bytes fresh suits are plans. let b = backup_of s files root (view_on v bytes) in
        record { other = fresh; grown = grown_due told b (store_bytes l) old old (λ k. 0) (λ k. owed planned k - owed planned k) s.staged s.staged fresh fresh (λ k. omega arith) (grown_none told b (store_bytes l) old s.staged fresh are); has = refl };
    plans = λ root files bytes suits plans. plans;
    names = refl;
    enter = enter;
    begun = begun;
    counts = λ bytes. refl;
    less = λ k. omega arith;
  }

  -- one entry more
  module _ {w : Seen} {t : Held} {m : Log} {x : PlannedEntry} {left : List PlannedEntry} {new : Making} {walked : ℕ} {entries : List Child} (far : Far told v w s t l m p base planned (x ∷ left) old new walked0 walked entries) where
    -- what it may be made on
    pub may_far : MayGo told w t (now m) a0 b0
    may_far = may_then told v w s t l m a0 b0 may far.ran far.went

    pub enter_far : MayEnter w t.nodes p base x
    enter_far = enter_later told v w s t l m p base x far.ran far.went far.enter.0

    pub begun_far : IsBegun t new
    begun_far = begun_later told s t l m new far.went far.begun

    -- what its call leaves
    pub ran_far : {y : Seen} {u : Held} {n : Log} → Ran told w y t u m n → Ran told v y s u l n
    ran_far {y} {u} {n} more = ran_then told v w s t l m a0 b0 may far.ran far.went y u n more

    pub went_far : {u : Held} {n : Log} → Went told t u m n → Went told s u l n
    went_far {u} {n} more = went_then told v w s t l m a0 b0 may far.ran far.went u n more

    pub suits_far : (root : Option ℕ) (bytes : ℕ → List ℕ) → Suits told s l p base root bytes → Suits told t m p base root bytes
    suits_far root bytes suits = suits_then told s t l m far.went v w a0 b0 may far.ran p base root bytes suits

    same : (files : ℕ → List ℕ) (root : Option ℕ) (bytes : ℕ → List ℕ) → backup_of t files root (view_on w bytes) ≡ backup_of s files root (view_on v bytes)
    same files root bytes = backup_now told v w s t l m far.ran far.went files root bytes

    within : (k : ℕ) → owed left k ≤ times k t.staged
    within k = omega (arith, far.less k, owed-cons x left k, due k, far.went.grows k)

    blocks_now : {A : Type 0} (u : Held) (r : Result A LineFault) → ((root : Option ℕ) (files bytes : ℕ → List ℕ) → Suits told t m p base root bytes → Stages (table_of t) (free_of t.image) (free_of u.image) (entry_staging (prev_on t files root) (view_on w bytes) p x) r)
        → (root : Option ℕ) (files bytes : ℕ → List ℕ) → Suits told s l p base root bytes → Stages (table_of s) (free_of t.image) (free_of u.image) (entry_staging (prev_on s files root) (view_on v bytes) p x) r
    blocks_now u r stages root files bytes suits =
        subst (λ (y : Seen). Stages (table_of s) (free_of t.image) (free_of u.image) (entry_staging (prev_on s files root) (view_on y bytes) p x) r) far.ran.volume
        (subst (λ (h : Held). Stages (table_of h) (free_of t.image) (free_of u.image) (entry_staging (prev_on h files root) (view_on w bytes) p x) r) far.went.same (stages root files bytes (suits_far root bytes suits)))

    -- that can't be made
    pub stages_stuck : {A : Type 0} (u : Held) {r : Result A LineFault} {e : LineFault} → r ≡ Err e
        → ((root : Option ℕ) (files bytes : ℕ → List ℕ) → Suits told t m p base root bytes → Stages {A = ℕ} (table_of t) (free_of t.image) (free_of u.image) (entry_staging (prev_on t files root) (view_on w bytes) p x) (Err e))
        → (root : Option ℕ) (files bytes : ℕ → List ℕ) → Suits told s l p base root bytes → Stages (table_of s) (free_of s.image) (free_of u.image) (flat_map (entry_staging (prev_on s files root) (view_on v bytes) p) planned) r
    stages_stuck u {r} {e} is stages root files bytes suits =
        onward_err ℕ (table_of s) (free_of s.image) (free_of t.image) (free_of u.image) (flat_map (entry_staging (prev_on s files root) (view_on v bytes) p) planned)
        (entry_staging (prev_on s files root) (view_on v bytes) p x) (flat_map (entry_staging (prev_on s files root) (view_on v bytes) p) left) r e is
        (far.stages root files bytes suits) (blocks_now {A = ℕ} u (Err e) stages root files bytes suits)

    module _ {y : Seen} {u : Held} {n : Log} (node : ℕ) (after : Making) (count : ℕ) (trees : (bytes : ℕ → List ℕ) → IsTree (view_on v bytes)) (ran : Ran told w y t u m n) (went : Went told t u m n)
        (stages : (root : Option ℕ) (files bytes : ℕ → List ℕ) → Suits told t m p base root bytes → Stages {A = ℕ} (table_of t) (free_of t.image) (free_of u.image) (entry_staging (prev_on t files root) (view_on w bytes) p x) (Ok node))
        (grows : EntryGrows told t u w m n p base x new after node) (begun : IsBegun t after)
        (counts : (bytes : ℕ → List ℕ) → counted count 0 ≡ counted walked (length (entry_folders (view_on w bytes) p x))) where
      -- what the entry is
      entry_now : (root : Option ℕ) (files bytes fresh : ℕ → List ℕ) → Suits told s l p base root bytes → let b = backup_of s files root (view_on v bytes) in AreNew b new.nodes → IsPlanned told b (store_bytes m) p x
          → Grows told b (store_bytes n) new after (λ k. times k (plan_blocks x.plan)) t.staged u.staged fresh (λ other. Builds b after.nodes other (next b new.nodes) (next b after.nodes) (p ++ x.name ∷ []) node)
      entry_now root files bytes fresh suits are plan =
          let is = same files root bytes in
          subst (λ (c : Backup). Grows told c (store_bytes n) new after (λ k. times k (plan_blocks x.plan)) t.staged u.staged fresh (λ other. Builds c after.nodes other (next c new.nodes) (next c after.nodes) (p ++ x.name ∷ []) node)) is
          (grows root files bytes fresh (suits_far root bytes suits) (subst (λ (c : Backup). AreNew c new.nodes) (sym is) are) (subst (λ (c : Backup). IsPlanned told c (store_bytes m) p x) (sym is) plan))

      abbrev child : Child
      child = record { name = x.name; node = node }

      grown_now : (root : Option ℕ) (files bytes fresh : ℕ → List ℕ) → Suits told s l p base root bytes → let b = backup_of s files root (view_on v bytes) in AreNew b old.nodes → ArePlanned told b (store_bytes l) p planned
          → Grows told b (store_bytes n) old after (λ k. owed planned k - owed left k) s.staged u.staged fresh (λ other. AreBuilt b after.nodes other p (next b old.nodes) (entries ++ child ∷ []) (next b after.nodes))
      grown_now root files bytes fresh suits are plans =
          let b = backup_of s files root (view_on v bytes) in
          let sound : IsSound b = sound_of s files root (view_on v bytes) may.graph suits.based (trees bytes) in
          let one = far.grows root files bytes fresh suits are plans in
          let two = entry_now root files bytes one.other suits one.grown.are (far.plans root files bytes suits plans).0 in
          let grown = grown_then told b (store_bytes m) (store_bytes n) old new after (λ k. owed planned k - owed (x ∷ left) k) (λ k. times k (plan_blocks x.plan)) s.staged t.staged u.staged fresh one.other two.other one.grown two.grown
          (λ k. omega (arith, due k)) went.others in
          let due_now = λ (k : ℕ). due_left k (owed-cons x left k) (far.less k) in
          record {
            other = two.other;
            grown = grown_due told b (store_bytes n) old after (λ k. (owed planned k - owed (x ∷ left) k) + times k (plan_blocks x.plan)) (λ k. owed planned k - owed left k) s.staged u.staged fresh two.other due_now grown;
            has = subst (λ (xs : Nodes). AreBuilt b xs two.other p (next b old.nodes) (entries ++ child ∷ []) (next b after.nodes)) (sym two.grown.nodes)
                (entry_is_built b new.nodes two.grown.more one.other two.other p (next b old.nodes) (next b new.nodes) (next b after.nodes) entries child sound one.grown.are one.has (λ i low lt. two.grown.same i lt)
                (subst (λ (xs : Nodes). Builds b xs two.other (next b new.nodes) (next b after.nodes) (p ++ x.name ∷ []) node) two.grown.nodes two.has));
          }
        where
          due_left : (k : ℕ) → owed (x ∷ left) k ≡ times k (plan_blocks x.plan) + owed left k → owed (x ∷ left) k ≤ owed planned k → (owed planned k - owed (x ∷ left) k) + times k (plan_blocks x.plan) ≡ owed planned k - owed left k
          due_left k e h = omega (arith, e, h)

      pub far_next : Far told v y s u l n p base planned left old after walked0 count (entries ++ child ∷ [])
      far_next = record {
        ran = ran_far ran;
        went = went_far went;
        stages = λ root files bytes suits. onward_next (table_of s) (free_of s.image) (free_of t.image) (free_of u.image) (flat_map (entry_staging (prev_on s files root) (view_on v bytes) p) planned)
            (entry_staging (prev_on s files root) (view_on v bytes) p x) (flat_map (entry_staging (prev_on s files root) (view_on v bytes) p) left) node
            (far.stages root files bytes suits) (blocks_now u (Ok node) stages root files bytes suits);
        grows = grown_now;
        plans = λ root files bytes suits plans.
            plans_stay told (backup_of s files root (view_on v bytes)) (store_bytes m) (store_bytes n) p left (λ z k some. went.others z k (omega (arith, some, within k))) (far.plans root files bytes suits plans).1;
        names = ap (λ (ns : List (List ℕ)). ns ++ map (λ (z : PlannedEntry). z.name) left) (map-append (λ (c : Child). c.name) entries (child ∷ [])) ∙ append_assoc (map (λ (c : Child). c.name) entries) (x.name ∷ []) (map (λ (z : PlannedEntry). z.name) left) ∙ far.names;
        enter = far.enter.1;
        begun = begun_now told s t l m after far.went begun;
        counts = λ bytes.
            let view : view_on w bytes ≡ view_on v bytes = view_listed v w w.looks far.ran.volume bytes in
            let a = length (entry_folders (view_on v bytes) p x) in
            let r = length (flat_map (entry_folders (view_on v bytes) p) left) in
            counted_zero count r ∙ ap (λ c. counted c r) (counts bytes ∙ ap (λ (z : Tree). counted walked (length (entry_folders z p x))) view) ∙ counted_then walked a r
            ∙ ap (counted walked) (sym (length-append (entry_folders (view_on v bytes) p x) (flat_map (entry_folders (view_on v bytes) p) left))) ∙ far.counts bytes;
        less = λ k. omega (arith, far.less k, owed-cons x left k);
      }

-- the entries that are left, told another way
module _ {told : Type 0} {v w : Seen} {s t : Held} {l m : Log} {p : Names} {base : Option ℕ} {planned xs : List PlannedEntry} {old new : Making} {walked0 walked : ℕ} {entries : List Child} (far : Far told v w s t l m p base planned xs old new walked0 walked entries) where
  pub far_left : {ys : List PlannedEntry} → xs ≡ ys → Far told v w s t l m p base planned ys old new walked0 walked entries
  far_left same = subst (λ (zs : List PlannedEntry). Far told v w s t l m p base planned zs old new walked0 walked entries) same far

-- all are made
module _ {told : Type 0} {v w : Seen} {s t : Held} {l m : Log} {p : Names} {base : Option ℕ} {planned : List PlannedEntry} {old new : Making} {walked0 walked : ℕ} {entries : List Child} (far : Far told v w s t l m p base planned [] old new walked0 walked entries) where
  pub stages_end : {A : Type 0} (a : A) (root : Option ℕ) (files bytes : ℕ → List ℕ) → Suits told s l p base root bytes → Stages (table_of s) (free_of s.image) (free_of t.image) (flat_map (entry_staging (prev_on s files root) (view_on v bytes) p) planned) (Ok a)
  stages_end {A} a root files bytes suits = onward_end {A = A} (table_of s) (free_of s.image) (free_of t.image) (flat_map (entry_staging (prev_on s files root) (view_on v bytes) p) planned) a (far.stages root files bytes suits)

  pub grows_end : EntriesGrow told s t v l m p base planned old new entries
  grows_end root files bytes fresh suits are plans =
      let b = backup_of s files root (view_on v bytes) in
      let h = far.grows root files bytes fresh suits are plans in
      record { other = h.other; grown = grown_due told b (store_bytes m) old new (λ k. owed planned k - owed [] k) (owed planned) s.staged t.staged fresh h.other (λ k. omega arith) h.grown; has = h.has }

  pub names_end : map (λ (c : Child). c.name) entries ≡ map (λ (x : PlannedEntry). x.name) planned
  names_end = sym (append-nil (map (λ (c : Child). c.name) entries)) ∙ far.names
