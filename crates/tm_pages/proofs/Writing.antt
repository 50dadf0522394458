-- The new pages are written, one run after another.
use Rattle.std.proofs.Common.{◌≡◌, ◌≢◌, ℕ, zero, suc, ◌+◌, ◌-◌, ◌*◌, ◌<◌, ◌≤◌, List, [], ◌∷◌, ◌++◌, length, get_or, take, drop, map, replicate, refl, sym, ◌∙◌, ap, subst, arith, ⊎_elim, length-drop, length-take, append-nil}
use Rattle.std.specs.List.{range_with_len, flat_map}
use Rattle.std.proofs.lemmas.List.{drop_more, drop-drop, drop_all, get_or-take, get_or-drop, take_at, take_rest, take_all, get_or_default}
use Rattle.std.proofs.lemmas.List.FromFn.{map-range_with_len_more}
use Rattle.std.proofs.lemmas.List.Concat.{flat_map-append}
use Rattle.std.proofs.lemmas.List.Sums.{sum_by-take-le, sum_by-take-drop}
use Rattle.std.proofs.lemmas.Bool.{cases_lt}
use Rattle.tm_world.specs.Disk.{Disk}
use Rattle.tm_world.specs.Outside.{disk}
use Rattle.tm_world.specs.Log.{Log, now}
use Rattle.tm_world.specs.Runs.{Runs}
use Rattle.tm_world.specs.declared.world.Side.{Side}
use Rattle.tm_world.proofs.Going.{Runs-none, Runs-then, Runs-weaker}
use Rattle.tm_blockmap.specs.Counts.{times, IsDistinct}
use Rattle.tm_blockmap.proofs.Counting.{distinct-apart, hit}
use Rattle.tm_chain.specs.Differs.{DiffersIn}
use Rattle.tm_chain.specs.Blob.{FillsOn, piece_of}
use Rattle.tm_pages.specs.declared.page.Page.{Page}
use Rattle.tm_pages.specs.declared.cut.Cut.{Cut}
use Rattle.tm_pages.specs.declared.cut.Run.{Run}
use Rattle.tm_pages.specs.Paged.{text_on}
use Rattle.tm_pages.specs.Cuts.{cut_len, piece_len}
use Rattle.tm_pages.specs.Runs.{page_on, pages_on, fresh_len}
use Rattle.tm_pages.specs.Plans.{AreParts, AreWritten, new_part}
use Rattle.tm_pages.proofs.Texts.{parted_twice}

-- how far the writing has come: no block but these differs, at any moment and now
pub record Written (side : Side) (old : Log) (blocks : List ℕ) (mid : Log) : Type 0 where
  pub runs : Runs side (DiffersIn blocks (disk side (now old))) old mid
  pub differs : DiffersIn blocks (disk side (now old)) (disk side (now mid))

pub written-none : (side : Side) (old : Log) (blocks : List ℕ) → Written side old blocks old
written-none side old blocks = record {
  runs = Runs-none side (DiffersIn blocks (disk side (now old))) old;
  differs = record { there = refl; count = refl; bytes = λ b out. refl; loose = λ b out. refl };
}

times_part : (b : ℕ) (blocks : List ℕ) (first c : ℕ) → times b (take c (drop first blocks)) ≤ times b blocks
times_part b blocks first c = omega (arith, sum_by-take-le (λ x. hit x b) (drop first blocks) c, sum_by-take-drop (λ x. hit x b) blocks first)

pub distinct_part : (blocks : List ℕ) (first c : ℕ) → IsDistinct blocks → IsDistinct (take c (take (length blocks - first) (drop first blocks)))
distinct_part blocks first c once b =
    let all : take (length blocks - first) (drop first blocks) ≡ drop first blocks = take_rest blocks first in
    subst (λ xs. times b (take c xs) ≤ 1) (sym all) (omega (arith, times_part b blocks first c, once b))

-- the blocks of one run
module _ (blocks : List ℕ) (first c : ℕ) (room : first + c ≤ length blocks) where
  abbrev part_blocks : List ℕ
  part_blocks = take c (drop first blocks)

  pub part_many : length part_blocks ≡ c
  part_many = omega (arith, length-take c (drop first blocks), length-drop first blocks)

  pub part_at : (j : ℕ) → j < c → get_or part_blocks j 0 ≡ get_or blocks (first + j) 0
  part_at j lt = get_or-take c (drop first blocks) j 0 lt ∙ get_or-drop first blocks j 0

  -- a block that isn't among all isn't among these
  out_of_part : (b : ℕ) → ((k : ℕ) → k < length blocks → b ≢ get_or blocks k 0) → (j : ℕ) → j < length part_blocks → b ≢ get_or part_blocks j 0
  out_of_part b out j lt e = out (first + j) (omega (arith, part_many)) (e ∙ part_at j (omega (arith, part_many)))

  differs_then : (old mid new : Disk) → DiffersIn blocks old mid → DiffersIn part_blocks mid new → DiffersIn blocks old new
  differs_then old mid new one two = record {
    there = two.there ∙ one.there;
    count = two.count ∙ one.count;
    bytes = λ b out. two.bytes b (out_of_part b out) ∙ one.bytes b out;
    loose = λ b out. two.loose b (out_of_part b out) ∙ one.loose b out;
  }

  pub written_part : (side : Side) (old mid new : Log) → Written side old blocks mid → Runs side (DiffersIn part_blocks (disk side (now mid))) mid new → DiffersIn part_blocks (disk side (now mid)) (disk side (now new)) → Written side old blocks new
  written_part side old mid new so_far runs differs = record {
    runs = Runs-then side (DiffersIn blocks (disk side (now old))) old mid new so_far.runs
        (Runs-weaker side (DiffersIn part_blocks (disk side (now mid))) (DiffersIn blocks (disk side (now old))) mid new (λ d has. differs_then (disk side (now old)) (disk side (now mid)) d so_far.differs has) runs);
    differs = differs_then (disk side (now old)) (disk side (now mid)) (disk side (now new)) so_far.differs differs;
  }

-- the text of the first pages of a cut
module _ (blocks part : List ℕ) (bytes : ℕ → List ℕ) (fills : (k : ℕ) → k < cut_len (length part) → bytes (get_or blocks k 0) ≡ piece_of part k) where
  abbrev text : Page → List ℕ
  text p = take p.length (bytes p.block)

  page_text : (k : ℕ) → k < cut_len (length part) → text (page_on blocks (length part) k) ≡ take 4096 (drop (4096 * k) part)
  unfolding piece_of
  page_text k lt =
      let piece : List ℕ = take 4096 (drop (4096 * k) part) in
      let long : length piece ≡ piece_len (length part) k = omega (arith, length-take 4096 (drop (4096 * k) part), length-drop (4096 * k) part) in
      ap (take (piece_len (length part) k)) (fills k lt) ∙ take_at piece (replicate (4096 - length piece) 0) (piece_len (length part) k) long

  first_pages : (k : ℕ) → k ≤ cut_len (length part) → flat_map text (map (page_on blocks (length part)) (range_with_len 0 k)) ≡ take (4096 * k) part
  first_pages zero le = refl
  first_pages (suc k) le =
      let next : suc k ≡ k + 1 = omega arith in
      let pages : List Page = map (page_on blocks (length part)) (range_with_len 0 k) in
      let last : Page = page_on blocks (length part) k in
      let one : 4096 * suc k - 4096 * k ≡ 4096 = omega arith in
      let only : flat_map text (last ∷ []) ≡ text last = append-nil (text last) in
      let here : 4096 * k - 0 ≡ 4096 * k = omega arith in
      let there : 4096 * suc k - 0 ≡ 4096 * suc k = omega arith in
      let split : take (4096 * suc k) part ≡ take (4096 * k) part ++ take 4096 (drop (4096 * k) part) =
      ap (λ m. take m part) (sym there) ∙ parted_twice part 0 (4096 * k) (4096 * suc k) (omega arith) (omega arith) ∙ ap (λ m. take m part ++ take (4096 * suc k - 4096 * k) (drop (4096 * k) part)) here
      ∙ ap (λ m. take (4096 * k) part ++ take m (drop (4096 * k) part)) one in
      ap (λ j. flat_map text (map (page_on blocks (length part)) (range_with_len 0 j))) next
      ∙ ap (flat_map text) (map-range_with_len_more (page_on blocks (length part)) 0 k k (omega arith))
      ∙ flat_map-append text pages (last ∷ [])
      ∙ ap (λ t. t ++ flat_map text (last ∷ [])) (first_pages k (omega arith))
      ∙ ap (λ t. take (4096 * k) part ++ t) (only ∙ page_text k (omega arith))
      ∙ sym split

  pub text_filled : text_on (pages_on blocks (length part)) bytes ≡ part
  unfolding text_on pages_on
  text_filled = first_pages (cut_len (length part)) (omega arith) ∙ take_all (4096 * cut_len (length part)) part (omega arith)

-- whatever is written of the rest, all is written
abbrev pub SoFar : List Run → List Cut → List ℕ → ℕ → ℕ → (ℕ → List ℕ) → Type 0
SoFar runs cuts blocks first k bytes = (later : ℕ → List ℕ) → ((i : ℕ) → i < first → later (get_or blocks i 0) ≡ bytes (get_or blocks i 0)) → AreWritten later (drop k runs) (drop k cuts) (drop first blocks) → AreWritten later runs cuts blocks

pub parts_at : (runs : List Run) (cuts : List Cut) (k : ℕ) (d : Run) (e : Cut) → AreParts (drop k runs) (drop k cuts) → k < length cuts
    → (k < length runs) × ((get_or cuts k e).start ≤ (get_or cuts k e).end) × ((get_or cuts k e).end ≤ length (get_or runs k d).text) × AreParts (drop (k + 1) runs) (drop (k + 1) cuts)
parts_at runs cuts k d e h lt = ⊎_elim
    (λ (inside : k < length runs).
    let all : AreParts (get_or runs k d ∷ drop (k + 1) runs) (get_or cuts k e ∷ drop (k + 1) cuts) = subst (λ rs. AreParts rs (get_or cuts k e ∷ drop (k + 1) cuts)) (drop_more runs k d inside) (subst (AreParts (drop k runs)) (drop_more cuts k e lt) h) in
    (inside, all.0, all.1, all.2))
    (λ (past : length runs ≤ k).
    let none : AreParts [] (get_or cuts k e ∷ drop (k + 1) cuts) = subst (λ rs. AreParts rs (get_or cuts k e ∷ drop (k + 1) cuts)) (drop_all k runs past) (subst (AreParts (drop k runs)) (drop_more cuts k e lt) h) in
    absurd none)
    (cases_lt k (length runs))

pub runs_within : (runs : List Run) (cuts : List Cut) (k : ℕ) (e : Cut) → AreParts (drop k runs) (drop k cuts) → k < length cuts → k < length runs
runs_within runs cuts k e h lt = ⊎_elim
    (λ (inside : k < length runs). inside)
    (λ (past : length runs ≤ k).
    let none : AreParts [] (get_or cuts k e ∷ drop (k + 1) cuts) = subst (λ rs. AreParts rs (get_or cuts k e ∷ drop (k + 1) cuts)) (drop_all k runs past) (subst (AreParts (drop k runs)) (drop_more cuts k e lt) h) in
    absurd none)
    (cases_lt k (length runs))

pub fresh_more : (cuts : List Cut) (k : ℕ) (e : Cut) → k < length cuts → fresh_len (drop k cuts) ≡ cut_len ((get_or cuts k e).end - (get_or cuts k e).start) + fresh_len (drop (k + 1) cuts)
fresh_more cuts k e lt = ap fresh_len (drop_more cuts k e lt)

-- what a turn of the loop finds at its place
pub record Turn (runs : List Run) (cuts : List Cut) (blocks part : List ℕ) (k first : ℕ) (run : Run) : Type 0 where
  pub cut : Cut
  pub in_runs : k < length runs
  pub in_cuts : k < length cuts
  pub run_is : run ≡ get_or runs k run
  pub cut_is : cut ≡ get_or cuts k cut
  pub part_is : part ≡ new_part run cut
  pub size : length part ≡ cut.end - cut.start
  pub room : first + cut_len (length part) ≤ length blocks
  pub rest : AreParts (drop (k + 1) runs) (drop (k + 1) cuts)
  pub many : first + cut_len (length part) + fresh_len (drop (k + 1) cuts) ≡ length blocks

pub turn : (runs : List Run) (cuts items : List Cut) (blocks text : List ℕ) (k first : ℕ) (run : Run) (d : Cut) → AreParts (drop k runs) (drop k items) → first + fresh_len (drop k items) ≡ length blocks → cuts ≡ items → k < length cuts → run ≡ get_or runs k run
    → text ≡ (get_or runs k run).text → Turn runs items blocks (take ((get_or cuts k d).end - (get_or cuts k d).start) (drop (get_or cuts k d).start text)) k first run
turn runs cuts items blocks text k first run d parts many same lt run_is text_is =
    let e : Cut = get_or items k d in
    let lt2 : k < length items = omega (arith, ap length same) in
    let at = parts_at runs items k run d parts lt2 in
    let made : take ((get_or cuts k d).end - (get_or cuts k d).start) (drop (get_or cuts k d).start text) ≡ new_part run e =
    ap (λ cs. take ((get_or cs k d).end - (get_or cs k d).start) (drop (get_or cs k d).start text)) same ∙ ap (λ t. take (e.end - e.start) (drop e.start t)) (text_is ∙ ap (λ (r : Run). r.text) (sym run_is)) in
    let long : length run.text ≡ length (get_or runs k run).text = ap (λ (r : Run). length r.text) run_is in
    let size : length (take ((get_or cuts k d).end - (get_or cuts k d).start) (drop (get_or cuts k d).start text)) ≡ e.end - e.start =
    ap length made ∙ omega (arith, length-take (e.end - e.start) (drop e.start run.text), length-drop e.start run.text, at.1, at.2) in
    let pages : cut_len (length (take ((get_or cuts k d).end - (get_or cuts k d).start) (drop (get_or cuts k d).start text))) ≡ cut_len (e.end - e.start) = ap cut_len size in
    record {
      cut = e;
      in_runs = at.0;
      in_cuts = lt2;
      run_is = run_is;
      cut_is = get_or_default items k d e lt2;
      part_is = made;
      size = size;
      room = omega (arith, fresh_more items k d lt2);
      rest = at.3;
      many = omega (arith, fresh_more items k d lt2);
    }

written_end : (bytes : ℕ → List ℕ) (runs : List Run) (cuts : List Cut) (blocks : List ℕ) → cuts ≡ [] → AreWritten bytes runs cuts blocks
written_end bytes [] cuts blocks none = tt
written_end bytes (run ∷ runs) cuts blocks none = subst (λ cs. AreWritten bytes (run ∷ runs) cs blocks) (sym none) tt

pub written_all : (runs : List Run) (cuts : List Cut) (blocks : List ℕ) (first k : ℕ) (bytes : ℕ → List ℕ) → length cuts ≤ k → SoFar runs cuts blocks first k bytes → AreWritten bytes runs cuts blocks
written_all runs cuts blocks first k bytes past so_far = so_far bytes (λ i lt. refl) (written_end bytes (drop k runs) (drop k cuts) (drop first blocks) (drop_all k cuts past))

pub written_more : (runs : List Run) (cuts : List Cut) (blocks part : List ℕ) (k first next : ℕ) (run : Run) (cut : Cut) (mid new : Disk) → k < length runs → k < length cuts → run ≡ get_or runs k run → cut ≡ get_or cuts k cut
    → part ≡ new_part run cut → length part ≡ cut.end - cut.start → first + cut_len (length part) ≤ length blocks → IsDistinct blocks → next ≡ first + cut_len (length part)
    → DiffersIn (take (cut_len (length part)) (drop first blocks)) mid new → FillsOn (take (cut_len (length part)) (drop first blocks)) part new.bytes
    → SoFar runs cuts blocks first k mid.bytes → SoFar runs cuts blocks next (k + 1) new.bytes
written_more runs cuts blocks part k first next run cut mid new in_runs in_cuts run_is cut_is part_is size room once next_is differs fills so_far later same rest =
    let n : ℕ = length part in
    let c : ℕ = cut_len n in
    let many : length (take c (drop first blocks)) ≡ c = part_many blocks first c room in
    let before : (i : ℕ) → i < first → later (get_or blocks i 0) ≡ mid.bytes (get_or blocks i 0) = λ i lt.
    same i (omega arith) ∙ differs.bytes (get_or blocks i 0) (λ j within e. distinct-apart blocks once i (first + j) (omega arith) (omega arith) (sym (e ∙ part_at blocks first c room j (omega arith)))) in
    let filled : (j : ℕ) → j < c → later (get_or (drop first blocks) j 0) ≡ piece_of part j = λ j lt.
    ap later (get_or-drop first blocks j 0) ∙ same (first + j) (omega arith) ∙ ap new.bytes (sym (part_at blocks first c room j lt)) ∙ fills.each j (omega arith) in
    let here : text_on (pages_on (drop first blocks) (cut.end - cut.start)) later ≡ new_part run cut =
    ap (λ m. text_on (pages_on (drop first blocks) m) later) (sym size) ∙ text_filled (drop first blocks) part later filled ∙ part_is in
    let tail : drop next blocks ≡ drop (cut_len (cut.end - cut.start)) (drop first blocks) =
    ap (λ m. drop m blocks) (next_is ∙ ap (λ m. first + cut_len m) size) ∙ sym (drop-drop (cut_len (cut.end - cut.start)) first blocks) in
    let both : AreWritten later (run ∷ drop (k + 1) runs) (cut ∷ drop (k + 1) cuts) (drop first blocks) = (here, subst (AreWritten later (drop (k + 1) runs) (drop (k + 1) cuts)) tail rest) in
    let all_runs : run ∷ drop (k + 1) runs ≡ drop k runs = ap (λ r. r ∷ drop (k + 1) runs) run_is ∙ sym (drop_more runs k run in_runs) in
    let all_cuts : cut ∷ drop (k + 1) cuts ≡ drop k cuts = ap (λ x. x ∷ drop (k + 1) cuts) cut_is ∙ sym (drop_more cuts k cut in_cuts) in
    so_far later before (subst (λ rs. AreWritten later rs (drop k cuts) (drop first blocks)) all_runs (subst (λ cs. AreWritten later (run ∷ drop (k + 1) runs) cs (drop first blocks)) all_cuts both))
