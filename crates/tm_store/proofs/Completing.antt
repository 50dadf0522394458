-- The end of a backup: what its commit asks for, and what it leaves.
use Rattle.std.proofs.Common.{◌≡◌, ◌≢◌, ℕ, ◌+◌, ◌^◌, ◌<◌, ◌≤◌, ◌==◌, not, cond, filter, Option, Some, None, Result, Err, IfSome, List, [], ◌∷◌, ◌++◌, length, map, refl, sym, ap, ◌∙◌, arith, subst}
use Rattle.std.specs.Prelude.{nat_lt}
use Rattle.std.specs.List.{All, list_any, sum_by}
use Rattle.std.proofs.lemmas.List.Sums.{sum_by-cons}
use Rattle.tm_base.specs.IsName.{IsName}
use Rattle.tm_base.specs.Limits.{max_nodes}
use Rattle.tm_base.specs.declared.refused.Refused.{Refused}
use Rattle.tm_base.specs.declared.refused.Refused.TheVariants.{Full, TooMany}
use Rattle.tm_blockmap.specs.Counts.{times}
use Rattle.tm_blockmap.proofs.Counting.{times-append}
use Rattle.tm_world.specs.Log.{Log}
use Rattle.tm_world.specs.Runs.{Runs}
use Rattle.tm_world.specs.declared.bytes.Blob.{Blob}
use Rattle.tm_world.specs.declared.world.Side.TheVariants.{Store}
use Rattle.tm_world.proofs.Going.{Runs-weaker}
use Rattle.tm_tree.specs.declared.rows.Mark.{Mark}
use Rattle.tm_records.specs.declared.record.Put.{Put}
use Rattle.tm_records.specs.Records.{Records}
use Rattle.tm_graph.specs.declared.built.Built.{Built}
use Rattle.tm_graph.specs.Nodes.{Nodes}
use Rattle.tm_graph.specs.Growing.{grown}
use Rattle.tm_image.specs.declared.error.ImageError.{ImageError}
use Rattle.tm_image.specs.declared.error.ImageError.TheVariants as error
use Rattle.tm_image.specs.Reads.{LeavesOneOf, entries_of}
use Rattle.tm_image.specs.Room.{AreStaged, HasRoom, free_of, need_of, table_len}
use Rattle.tm_image.specs.Seen.{Seen, IsSound, IsSettled, staged}
use Rattle.tm_image.specs.Commit.{IsPut, brought_by, changed, released_by}
use Rattle.tm_store_records.specs.declared.snapshot.Snapshot.{Snapshot}
use Rattle.tm_store_records.specs.Found.{nodes_in, snapshots_in, machine_in, node_key}
use Rattle.tm_store_records.specs.Heads.{heads_of}
use Rattle.tm_store_records.specs.Rules.{IsGoodStore}
use Rattle.tm_store_records.specs.Tags.{FitsTag, tag_of}
use Rattle.tm_store_records.specs.States.{StoredStore, StoreIs, LeavesStore, files_in, snapshot_on}
use Rattle.tm_store_records.specs.Held.{Held, IsWhole, files_of, store_on, store_stored_on}
use Rattle.tm_store_records.specs.Built.{IsBuilt, IsMark, store_completed, snapshot_built}
use Rattle.tm_store_records.proofs.Leaving.{leaves_store}
use Rattle.tm_store_records.proofs.Linking.{short_list}
use Rattle.tm_store_records.proofs.NextKeyLemmas.{lt_true, lt_false}
use Rattle.tm_store_records.proofs.Retagging.{staged_once}
use Rattle.tm_store_records.proofs.Storing.{store_is, files_are}
use Rattle.tm_snapshot.specs.Puts.{built_blocks}
use Rattle.tm_snapshot.specs.Completing.{count_after, need_after, after_complete, complete_refusal, unless_refusal}
use Rattle.tm_snapshot.specs.Growth.{AreGrown, ArePuts, MayComplete, puts_of, records_after}
use Rattle.tm_store.specs.Joining.{joined}
use Rattle.tm_store.proofs.Unstaging.{left_of, taken_out}
use Rattle.tm_nodes.proofs.Fields.{name_had}

-- ---- before

pub some_holds : (o : Option ℕ) (d : ℕ) (P : ℕ → Type 0) → o ≡ Some d → P d → IfSome o P
some_holds None d P e p = absurd (cc e)
some_holds (Some x) d P e p = let same : x ≡ d = cc in subst P (sym same) p

pub all_hold : (o : Option ℕ) (P : ℕ → Type 0) → ((x : ℕ) → P x) → IfSome o P
all_hold None P all = tt
all_hold (Some x) P all = all x

pub few_held : (h : Held) → IsWhole h → length h.nodes ≤ max_nodes
few_held h whole =
    let few : length (nodes_in (heads_of h.image.records)) ≤ max_nodes = short_list (nodes_in (heads_of h.image.records)) max_nodes (λ i e is. ((whole.good (node_key e.0)).node_rules i e is refl).few) in
    omega (arith, few, ap (λ (g : Nodes). length g) whole.nodes_are)

-- what was asked of the call
pub may_complete : (h : Held) (built : Built) (date : ℕ) (volume : List ℕ) (id : ℕ) (mark : Mark) → IsWhole h → IsBuilt h built → IsMark mark → h.running ≡ Some date → ∥ IsName volume ∥₁ → id < 2 ^ 128 → count_after h built ≤ max_nodes
    → MayComplete h built date volume id mark
may_complete h built date volume id mark whole is_built is_mark runs name small few = record { whole = whole; runs = runs; is_built = is_built; is_mark = is_mark; name = name_had volume name; small = small; few = few }

times_built : (b : ℕ) (blobs : List (ℕ × Blob)) → times b (built_blocks blobs) ≡ sum_by (λ x. times b x.1.blocks) blobs
times_built b [] = refl
times_built b (x ∷ blobs) = times-append b x.1.blocks (built_blocks blobs) ∙ ap (λ n. times b x.1.blocks + n) (times_built b blobs) ∙ sym (sum_by-cons (λ (y : ℕ × Blob). times b y.1.blocks) x blobs)

module _ (h : Held) (built : Built) (date : ℕ) (volume : List ℕ) (id : ℕ) (mark : Mark) (may : MayComplete h built date volume id mark)
    (k : Held) (ps : List Put) (is : k ≡ joined h built (snapshot_built h built date volume id mark)) (puts : ps ≡ puts_of h built date volume id mark) where
  abbrev s : Snapshot
  s = snapshot_built h built date volume id mark

  abbrev S : Records
  S = records_after h built date volume id mark

  same_image : k.image ≡ h.image
  same_image = ap (λ (q : Held). q.image) is

  same_number : k.number ≡ h.number
  same_number = ap (λ (q : Held). q.number) is

  pub records_are : changed [] ps k.image.records ≡ S
  records_are = λ i. changed [] (puts i) (same_image i).records

  -- ---- what the commit asks for

  module _ (fit : ArePuts h built date volume id mark) where
    pub put_asked : All (IsPut k.image.records) ps
    put_asked = subst (λ (m : Seen). All (IsPut m.records) ps) (sym same_image) (subst (λ (qs : List Put). All (IsPut h.image.records) qs) (sym puts) fit.each)

    pub some_asked : changed [] ps k.image.records ≢ []
    some_asked none = fit.some (sym records_are ∙ none)

    pub staged_asked : (left : List ℕ) → left ≡ filter (λ b. not (list_any (λ x. x == b) (built_blocks built.blobs))) h.staged → ((b : ℕ) → sum_by (λ x. times b x.1.blocks) built.blobs ≤ times b h.staged)
        → (b : ℕ) → times b left + brought_by b ps ≡ staged b k.image
    staged_asked left is_left within b =
        let out = taken_out (built_blocks built.blobs) h.staged (λ c. (let here = within c in let same = times_built c built.blobs in omega (arith, here, same))) (staged_once h may.whole) b in
        let lists : times b left ≡ times b (left_of (built_blocks built.blobs) h.staged) = ap (times b) is_left in
        let bring : brought_by b ps ≡ sum_by (λ x. times b x.1.blocks) built.blobs = ap (brought_by b) puts ∙ fit.bring b in
        let stage : staged b k.image ≡ staged b h.image = ap (staged b) same_image in
        let are = may.whole.blobs b in
        omega (arith, out, lists, bring, stage, are, times_built b built.blobs)

  -- ---- refusals

  module _ (told : need_of (table_len h.image.records) (table_len S) (released_by [] (puts_of h built date volume id mark) h.image.records) ≡ need_after h built date volume id mark) where
    need_is : need_of (table_len k.image.records) (table_len (changed [] ps k.image.records)) (released_by [] ps k.image.records) ≡ need_after h built date volume id mark
    need_is = (λ i. need_of (table_len (same_image i).records) (table_len (records_are i)) (released_by [] (puts i) (same_image i).records)) ∙ told

    abbrev no_room : Option Refused
    no_room = cond (nat_lt (free_of h.image) (need_after h built date volume id mark)) (Some (Full (need_after h built date volume id mark) (free_of h.image))) None

    pub not_refused : need_of (table_len k.image.records) (table_len (changed [] ps k.image.records)) (released_by [] ps k.image.records) ≤ free_of k.image → complete_refusal h built date volume id mark ≡ None
    not_refused fits =
        let free : free_of k.image ≡ free_of h.image = ap free_of same_image in
        let need = need_is in
        let few = lt_false max_nodes (count_after h built) may.few in
        let room = lt_false (free_of h.image) (need_after h built date volume id mark) (omega (arith, fits, free, need)) in
        ap (λ b. cond b (Some (TooMany (count_after h built))) no_room) few ∙ ap (λ b. cond b (Some (Full (need_after h built date volume id mark) (free_of h.image))) None) room

    pub refused : (need free : ℕ) → (free < need) × (free ≡ free_of k.image) × (need ≡ need_of (table_len k.image.records) (table_len (changed [] ps k.image.records)) (released_by [] ps k.image.records))
        → complete_refusal h built date volume id mark ≡ Some (Full need free)
    refused need free full =
        let frees : free ≡ free_of h.image = full.1 ∙ ap free_of same_image in
        let needs : need ≡ need_after h built date volume id mark = full.2 ∙ need_is in
        let few = lt_false max_nodes (count_after h built) may.few in
        let room = lt_true (free_of h.image) (need_after h built date volume id mark) (let less = full.0 in omega (arith, less, frees, needs)) in
        ap (λ b. cond b (Some (TooMany (count_after h built))) no_room) few ∙ ap (λ b. cond b (Some (Full (need_after h built date volume id mark) (free_of h.image))) None) room ∙ (λ i. Some (Full (sym needs i) (sym frees i)))

  -- ---- what a stop leaves

  next_fits : FitsTag None (h.number + 1)
  next_fits = let low = (may.whole.runs date may.runs).1.number in record { date = tt; least = omega arith; most = omega (arith, low) }

  pub run_completed : (bytes : ℕ → List ℕ) (l0 l1 : Log) → complete_refusal h built date volume id mark ≡ None → StoreIs (entries_of bytes S) (store_completed h built date volume id mark bytes)
      → Runs Store (LeavesOneOf Store (entries_of bytes k.image.records) k.image.root.tag (entries_of bytes (changed [] ps k.image.records)) (tag_of None (k.number + 1))) l0 l1
      → Runs Store (LeavesStore (store_stored_on h bytes) (after_complete h built date volume id mark bytes)) l0 l1
  run_completed bytes l0 l1 none stored runs =
      let here : Runs Store (LeavesOneOf Store (entries_of bytes h.image.records) h.image.root.tag (entries_of bytes S) (tag_of None (h.number + 1))) l0 l1
      = subst (λ (x : Seen × Records × ℕ). Runs Store (LeavesOneOf Store (entries_of bytes x.0.records) x.0.root.tag (entries_of bytes x.1) (tag_of None (x.2 + 1))) l0 l1) (λ i. (same_image i, records_are i, same_number i)) runs in
      let next : StoredStore = record { store = store_completed h built date volume id mark bytes; running = None } in
      let after : after_complete h built date volume id mark bytes ≡ next = ap (λ o. unless_refusal o (store_stored_on h bytes) next) none in
      subst (λ (t : StoredStore). Runs Store (LeavesStore (store_stored_on h bytes) t) l0 l1) (sym after)
      (Runs-weaker Store _ _ l0 l1 (λ d. leaves_store (entries_of bytes h.image.records) (entries_of bytes S) h.image.root.tag (tag_of None (h.number + 1)) (store_stored_on h bytes) next
      may.whole.tag may.whole.fits (store_is h bytes may.whole) refl next_fits stored Store refl d) here)

  -- ---- what stands afterwards

  module _ (n : Held) (same : n ≡ record k { image = n.image; running = None; stored = None; number = k.number + 1; staged = [] }) (records : n.image.records ≡ changed [] ps k.image.records) where
    grown_records : n.image.records ≡ S
    grown_records = records ∙ records_are

    machine_after : n.machine ≡ h.machine
    machine_after = ap (λ (q : Held). q.machine) same ∙ ap (λ (q : Held). q.machine) is

    nodes_after : n.nodes ≡ grown h.nodes built.nodes built.root
    nodes_after = ap (λ (q : Held). q.nodes) same ∙ ap (λ (q : Held). q.nodes) is

    snapshots_after : n.snapshots ≡ h.snapshots ++ s ∷ []
    snapshots_after = ap (λ (q : Held). q.snapshots) same ∙ ap (λ (q : Held). q.snapshots) is

    number_after : n.number ≡ h.number + 1
    number_after = ap (λ (q : Held). q.number) same ∙ ap (λ x. x + 1) same_number

    running_after : n.running ≡ None
    running_after = ap (λ (q : Held). q.running) same

    stored_after : n.stored ≡ None
    stored_after = ap (λ (q : Held). q.stored) same

    staged_after : n.staged ≡ []
    staged_after = ap (λ (q : Held). q.staged) same

    pub state_after : (old new : ℕ → List ℕ)
        → map (snapshot_on (files_of S old) (grown h.nodes built.nodes built.root)) (h.snapshots ++ s ∷ []) ≡ (store_completed h built date volume id mark old).snapshots
        → entries_of new n.image.records ≡ entries_of old n.image.records → store_on n new ≡ store_completed h built date volume id mark old
    state_after old new are data_same =
        let files : files_of n.image.records new ≡ files_of S old
        = sym (files_are n.image.records new) ∙ ap files_in data_same ∙ files_are n.image.records old ∙ ap (λ (es : Records). files_of es old) grown_records in
        let snapshots : map (snapshot_on (files_of n.image.records new) n.nodes) n.snapshots ≡ (store_completed h built date volume id mark old).snapshots
        = (λ i. map (snapshot_on (files i) (nodes_after i)) (snapshots_after i)) ∙ are in
        λ i. record { machine = machine_after i; number = number_after i; snapshots = snapshots i }

    pub whole_after : AreGrown h built date volume id mark S → n.image.side ≡ Store → IsSound n.image → IsSettled n.image → HasRoom n.image → n.image.root.tag ≡ tag_of None (k.number + 1) → AreStaged [] n.image → IsWhole n
    whole_after grow side sound settled space tag unstaged = record {
      side = side;
      sound = sound;
      settled = settled;
      space = space;
      good = subst (λ (x : Records × ℕ). IsGoodStore (heads_of x.0) x.1) (λ i. (sym grown_records i, sym number_after i)) grow.good;
      machine_is = ap (λ (es : Records). machine_in (heads_of es)) grown_records ∙ grow.machine_is ∙ ap (λ (m : List ℕ). Some m) (sym machine_after);
      nodes_are = nodes_after ∙ sym grow.nodes_are ∙ ap (λ (es : Records). nodes_in (heads_of es)) (sym grown_records);
      snapshots_are = snapshots_after ∙ sym grow.snapshots_are ∙ ap (λ (es : Records). snapshots_in (heads_of es)) (sym grown_records);
      tag = tag ∙ (λ i. tag_of (sym stored_after i) (sym (ap (λ (q : Held). q.number) same) i));
      fits = subst (λ (x : Option ℕ × ℕ). FitsTag x.0 x.1) (λ i. (sym stored_after i, sym number_after i)) next_fits;
      runs = λ d e. absurd (let bad : None ≡ Some d = sym running_after ∙ e in cc);
      blobs = subst (λ (bs : List ℕ). AreStaged bs n.image) (sym staged_after) unstaged;
    }

-- the errors of a commit that leave all as it was
pub full_apart : (e : ImageError) (need free : ℕ) → e ≡ error.Full need free → ◌≢◌ {A = Result (Unit {0}) ImageError} (Err e) (Err error.Fault)
full_apart e need free is bad = cc
