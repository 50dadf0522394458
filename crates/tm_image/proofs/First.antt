-- A new image in memory.
use Rattle.std.proofs.Common.{◌≡◌, ◌≢◌, ⊎_elim, inl, inr, ℕ, suc, ◌^◌, ◌<◌, ◌≤◌, List, [], ◌∷◌, length, get_or, refl, sym, ◌∙◌, ap, subst, arith, Option, false}
use Rattle.std.specs.List.{All}
use Rattle.std.specs.Ordering.{nat_cmp, match_ordering}
use Rattle.std.specs.declared.cmp.Ordering.TheVariants.{Less, Equal, Greater}
use Rattle.std.specs.BTreeMap.{insert_entry}
use Rattle.std.specs.Map.{keys_of, values_of}
use Rattle.std.proofs.lemmas.Bool.{cases_lt}
use Rattle.std.proofs.lemmas.List.Sums.{sum_by-cons}
use Rattle.std.proofs.lemmas.Map.Views.{All-values-insert_entry}
use Rattle.tm_world.specs.Disk.{Disk, Image, IsLeft}
use Rattle.tm_world.specs.Outside.{disk}
use Rattle.tm_world.specs.Log.{Log, now, Steps}
use Rattle.tm_world.specs.Runs.{Runs}
use Rattle.tm_world.specs.declared.world.Side.{Side}
use Rattle.tm_world.proofs.Going.{Runs-none, Runs-stays, Runs-then, Runs-weaker}
use Rattle.tm_gate.specs.declared.root.Root.{Root}
use Rattle.tm_gate.specs.Selector.{named_by}
use Rattle.tm_gate.specs.Gate.{IsGate}
use Rattle.tm_gate.specs.Fields.{kind_of}
use Rattle.tm_gate.specs.Root.{IsRoot, after_root}
use Rattle.tm_gate.specs.Tag.{IsTag}
use Rattle.tm_blockmap.specs.Counts.{times, IsDistinct}
use Rattle.tm_blockmap.proofs.Counting.{within_map, stands}
use Rattle.tm_records.specs.declared.record.Record.{Record}
use Rattle.tm_records.specs.declared.record.Put.{Put}
use Rattle.tm_records.specs.declared.record.Body.{Body}
use Rattle.tm_records.specs.Records.{Records, at}
use Rattle.tm_records.specs.Puts.{CanPut, put_record, with_puts}
use Rattle.tm_image.specs.Layout.{blocks_for}
use Rattle.tm_image.specs.Content.{Content, IsAtRest, Writes, in_data, Holds}
use Rattle.tm_image.specs.Reads.{data_len, entries_of}
use Rattle.tm_image.specs.Seen.{Seen, IsSound, IsKept, content_of}
use Rattle.tm_image.specs.Room.{HasRoom}
use Rattle.tm_image.specs.Blank.{IsDraft, IsFirstPut, IsWithoutData, IsFirst, IsBlank, LeavesNoneOr, LeavesNoneOrHeld, LacksMagic}
use Rattle.tm_image.proofs.Formatting.{lacks_same}
use Rattle.tm_image.proofs.Keeping.{keys_with}
use Rattle.tm_image.proofs.Owning.{kept_low, counted}
use Rattle.tm_image.proofs.Preparing.{some_text}
use Rattle.tm_image.proofs.Standing.{good, reads}

pub can_first : (p : Put) (o : Option Record) → IsFirstPut p → CanPut p.body o
can_first p o first = subst (λ (b : Body). CanPut b o) (sym first.body) tt

makes_none : (p : Put) (o : Option Record) → IsFirstPut p → IsWithoutData (put_record p.body p.meta o)
makes_none p o first = subst (λ (b : Body). IsWithoutData (put_record b p.meta o)) (sym first.body) (record { meta = first.meta; length = refl; blocks = refl })

-- records without data
pub first_each : (ps : List Put) (es : Records) → All IsFirstPut ps → All IsWithoutData (values_of es) → All IsWithoutData (values_of (with_puts ps es))
first_each [] es firsts each = each
first_each (p ∷ ps) es firsts each = first_each ps (insert_entry nat_cmp es p.key (put_record p.body p.meta (at p.key es))) (λ k d lt. firsts (suc k) d (omega arith))
    (All-values-insert_entry nat_cmp p.key (put_record p.body p.meta (at p.key es)) IsWithoutData es each (makes_none p (at p.key es) (firsts 0 p (omega arith))))

pub first_keys : (ps : List Put) → All IsFirstPut ps → All (λ k. k < 2 ^ 64) (keys_of (with_puts ps []))
first_keys ps firsts = keys_with ps [] (λ k d lt. (firsts k d lt).key) (λ k d lt. absurd (omega arith))

pub kept_each : (es : Records) → All IsWithoutData (values_of es) → All IsKept (values_of es)
kept_each es each k d lt =
    let none : IsWithoutData (get_or (values_of es) k d) = each k d lt in
    record { meta = none.meta; many = omega (arith, ap length none.blocks, none.length) }

no_data : (b : ℕ) (es : Records) → All IsWithoutData (values_of es) → in_data b es ≡ 0
no_data b [] each = refl
no_data b (e ∷ es) each = omega (arith, sum_by-cons (λ (r : Record). times b r.blocks) e.1 (values_of es), no_data b es (λ k d lt. each (suc k) d (omega arith)), ap (times b) (each 0 e.1 (omega arith)).blocks)

no_len : (es : Records) → All IsWithoutData (values_of es) → data_len es ≡ 0
no_len [] each = refl
no_len (e ∷ es) each = omega (arith, sum_by-cons (λ (r : Record). length r.blocks) e.1 (values_of es), no_len es (λ k d lt. each (suc k) d (omega arith)), ap length (each 0 e.1 (omega arith)).blocks)

blank_left : (d : Disk) → IsBlank d → (image : Image) → IsLeft d image → LacksMagic image.bytes
blank_left d blank image left = lacks_same d.bytes image.bytes (named_by (d.bytes 0)) refl (ap named_by (left.stable 0 blank.selector_stable)) (left.stable (named_by (d.bytes 0)) blank.slot_stable) blank.lacks

pub blank_gate : (d : Disk) (named : ℕ) → IsBlank d → named_by (d.bytes 0) ≡ named → IsGate d named (d.bytes named)
blank_gate d named blank is = record { selected = is; holds = refl; selector_stable = blank.selector_stable; slot_stable = subst (λ n. d.loose n ≡ false) is blank.slot_stable }

insert_some : (es : Records) (k : ℕ) (v : Record) → insert_entry nat_cmp es k v ≢ []
insert_some [] k v is = cc
insert_some (e ∷ es) k v is = elim (nat_cmp k e.0) as (λ r. match_ordering r ((k, v) ∷ e ∷ es) ((e.0, v) ∷ es) (e ∷ insert_entry nat_cmp es k v) ≡ [] → ⊥) [
  | Less ↦ λ h. cc
  | Equal ↦ λ h. cc
  | Greater ↦ λ h. cc
] is

stays_some : (ps : List Put) (es : Records) → es ≢ [] → with_puts ps es ≢ []
stays_some [] es some = some
stays_some (p ∷ ps) es some = stays_some ps (insert_entry nat_cmp es p.key (put_record p.body p.meta (at p.key es))) (insert_some es p.key (put_record p.body p.meta (at p.key es)))

pub first_some : (ps : List Put) → ps ≢ [] → with_puts ps [] ≢ []
first_some [] some = absurd (some refl)
first_some (p ∷ ps) some = stays_some ps (insert_entry nat_cmp [] p.key (put_record p.body p.meta (at p.key []))) (insert_some [] p.key (put_record p.body p.meta (at p.key [])))

-- a blank side from which a block was read
pub read_blank : (side : Side) (l0 l1 : Log) (es : Records) (tag : List ℕ) → Steps l0 l1 (now l0) → IsBlank (disk side (now l0)) → Runs side (LeavesNoneOr side (entries_of (disk side (now l0)).bytes es) tag) l0 l1
read_blank side l0 l1 es tag steps blank = Runs-stays side (LeavesNoneOr side (entries_of (disk side (now l0)).bytes es) tag) l0 l0 l1 (Runs-none side _ l0) steps (λ image left. inl (blank_left (disk side (now l0)) blank image left))

-- what the root for it says
pub record IsFirstRoot (side : Side) (table text tag : List ℕ) (r : Root) : Type 0 where
  pub is_tag : IsTag side tag
  pub kind : r.kind ≡ kind_of side
  pub version : r.version ≡ 1
  pub first : r.first ≡ get_or table 0 0
  pub table_len : r.table_len ≡ length text
  pub tag_is : r.tag ≡ tag

module _ (total : ℕ) (es : Records) (table used text : List ℕ) (is : IsDraft total es table used text) where
  some_bytes : 0 < length text
  some_bytes = some_text es text is.some is.text_is

  pub some_block : 0 < length table
  some_block = omega (arith, is.many, some_bytes)

  pub high : (b : ℕ) → 0 < times b table → 3 ≤ b
  high b some = ⊎_elim
      (λ (lt : b < 3). absurd (omega (arith, is.used_is b, is.marks b, kept_low b lt)))
      (λ (le : 3 ≤ b). le)
      (cases_lt b 3)

  inside : (b : ℕ) → 0 < times b table → b < total
  inside b some = omega (arith, is.size, within_map used b (omega (arith, is.used_is b)))

  pub once : IsDistinct table
  once b = omega (arith, is.used_is b, is.marks b)

  pub within : (n : ℕ) → n ≡ total → (k : ℕ) → k < length table → get_or table k 0 < n
  within n same k lt = omega (arith, same, inside (get_or table k 0) (stands table k lt))

  pub empty : (b : ℕ) → in_data b es ≡ 0
  empty b = no_data b es is.each

  module _ (side : Side) (tag : List ℕ) (r : Root) (for : IsFirstRoot side table text tag r) where
    abbrev pub seen : ℕ → Seen
    seen named = record { side = side; records = es; used = used; layout = table; root = after_root r r; named = named }

    root_good : IsRoot side (length used) (after_root r r)
    root_good = record {
      kind = for.kind;
      version = for.version;
      first_least = omega (arith, for.first, high (get_or table 0 0) (stands table 0 some_block));
      first_most = omega (arith, for.first, is.size, within total refl 0 some_block);
      length_least = omega (arith, for.table_len, some_bytes);
      length_most = omega (arith, for.table_len, is.many, is.room, is.size);
      tag = subst (IsTag side) (sym for.tag_is) for.is_tag;
    }

    pub sound : (named : ℕ) → 1 ≤ named → named ≤ 2 → IsSound (seen named)
    sound named low above = record {
      marks = is.marks;
      owners = λ b. omega (arith, is.used_is b, empty b);
      small = omega (arith, is.size, is.small);
      low = low;
      high = above;
      rising = is.rising;
      keys = is.keys;
      each = kept_each es is.each;
      root = root_good;
      first = for.first;
      many = is.many ∙ ap blocks_for (sym for.table_len);
    }

    pub space : (named : ℕ) → HasRoom (seen named)
    space named = omega (arith, is.room, is.size, counted used table [] es (λ b. omega (arith, is.used_is b, empty b)), no_len es is.each)

    pub is_first : (d : Disk) → d.count ≡ total → IsFirst (content_of (seen 1)) d
    is_first d count = record {
      count = count ∙ sym is.size;
      high = λ b some. high b (omega (arith, some, empty b));
      empty = empty;
    }

    pub writes : (ts : List ℕ) (bs : List ℕ) → bs ≡ table → ts ≡ text → Writes (content_of (seen 1)) bs ts (after_root r r)
    writes ts bs blocks_are texts_are = record { blocks_are = blocks_are; text_is = texts_are ∙ is.text_is; root_is = refl }

    pub first_run : (l0 l1 : Log) → Runs side (LeavesNoneOrHeld (content_of (seen 1)) (disk side (now l0)).bytes) l0 l1
        → Runs side (LeavesNoneOr side (entries_of (disk side (now l0)).bytes es) tag) l0 l1
    first_run l0 l1 runs = subst (λ t. Runs side (LeavesNoneOr side (entries_of (disk side (now l0)).bytes es) t) l0 l1) for.tag_is
        (Runs-weaker side _ (LeavesNoneOr side (entries_of (disk side (now l0)).bytes es) r.tag) l0 l1 (λ d leaves. λ image left. ⊎_elim
        (λ (lacks : LacksMagic image.bytes). inl lacks)
        (λ (holds : Holds (content_of (seen 1)) (disk side (now l0)).bytes image). inr (reads side (content_of (seen 1)) (disk side (now l0)).bytes image (good (seen 1) (sound 1 (omega arith) (omega arith)) (for.table_len ∙ ap length is.text_is) (space 1)) (kept_each es is.each) holds))
        (leaves image left)) runs)

    -- the whole call: the selector is read, then the table is written and the gate turned
    module _ (es2 : Records) (same : es ≡ es2) (bs ts : List ℕ) (blocks_are : bs ≡ table) (texts_are : ts ≡ text) (l0 l1 l2 : Log) (steps : Steps l0 l1 (now l0)) (count : (disk side (now l0)).count ≡ total) where
      stays : disk side (now l1) ≡ disk side (now l0)
      stays = ap (disk side) steps.ends

      pub blank_run : IsBlank (disk side (now l0))
          → ((new : Content) → IsFirst new (disk side (now l1)) → LacksMagic (disk side (now l1)).bytes → Writes new bs ts (after_root r r) → Runs side (LeavesNoneOrHeld new (disk side (now l1)).bytes) l1 l2)
          → Runs side (LeavesNoneOr side (entries_of (disk side (now l0)).bytes es2) tag) l0 l2
      blank_run blank runs = subst (λ (rs : Records). Runs side (LeavesNoneOr side (entries_of (disk side (now l0)).bytes rs) tag) l0 l2) same
          (Runs-then side (LeavesNoneOr side (entries_of (disk side (now l0)).bytes es) tag) l0 l1 l2 (read_blank side l0 l1 es tag steps blank)
          (subst (λ (d : Disk). Runs side (LeavesNoneOr side (entries_of d.bytes es) tag) l1 l2) stays
          (first_run l1 l2 (runs (content_of (seen 1)) (is_first (disk side (now l1)) (ap (λ (d : Disk). d.count) stays ∙ count)) (subst (λ (d : Disk). LacksMagic d.bytes) (sym stays) blank.lacks) (writes ts bs blocks_are texts_are)))))

      pub blank_rest : (named : ℕ) → ((new : Content) → IsFirst new (disk side (now l1)) → Writes new bs ts (after_root r r) → IsAtRest new named (disk side (now l2)))
          → IsAtRest (content_of (seen 1)) named (disk side (now l2))
      blank_rest named rests = rests (content_of (seen 1)) (is_first (disk side (now l1)) (ap (λ (d : Disk). d.count) stays ∙ count)) (writes ts bs blocks_are texts_are)
