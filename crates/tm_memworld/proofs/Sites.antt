-- The disk of a site, and what each change of the site makes of it.
use Rattle.std.proofs.Common.{◌≡◌, ◌≢◌, ⊎_elim, ℕ, ◌<◌, ◌≤◌, true, false, cond, eqb, ltb, List, length, get_or, set, replicate, Option, Some, None, refl, sym, ◌∙◌, ap, rules, tests, arith}
use Rattle.std.proofs.Math.ListN.{length-replicate}
use Rattle.std.proofs.lemmas.Bool.{cond-true, cond-false, cases_eq, cases_lt, eq-eqb, ne_eqb}
use Rattle.std.proofs.lemmas.List.{get_or-set_same, get_or-set_other, get_or-replicate, get_or_past}
use Rattle.tm_world.specs.Disk.{nothing, zeros, written, synced}
use Rattle.tm_memworld.specs.Torn.{loosened, torn_disk}
use Rattle.tm_memworld.specs.Site.{disk_in, disk_of, zero_block, KeepsImage, blank}

get_or-set : {X : Type 0} (xs : List X) (i : ℕ) (v d : X) (b : ℕ) → i < length xs → get_or (set xs i v) b d ≡ cond (eqb b i) v (get_or xs b d)
get_or-set xs i v d b lt = ⊎_elim
    (λ (same : b ≡ i). ap (λ k. get_or (set xs i v) k d) same ∙ get_or-set_same xs i v d lt ∙ sym (cond-true (eqb b i) v (get_or xs b d) (eq-eqb b i same)))
    (λ (ne : b ≢ i). get_or-set_other xs i b v d ne ∙ sym (cond-false (eqb b i) v (get_or xs b d) (ne_eqb b i ne)))
    (cases_eq b i)

pub get_or-same : {X : Type 0} (n : ℕ) (v : X) (b : ℕ) → get_or (replicate n v) b v ≡ v
get_or-same n v b = ⊎_elim
    (λ (lt : b < n). get_or-replicate n b v v lt)
    (λ (le : n ≤ b). get_or_past (replicate n v) b v (omega (arith, length-replicate n v)))
    (cases_lt b n)

-- a block of the image is one of those that are kept
pub within : (count : Option ℕ) (blocks : List (List ℕ)) (times : List ℕ) (settled block : ℕ) → KeepsImage count blocks times → block < (disk_in count blocks times settled).count → block < length blocks
unfolding disk_in
within None blocks times settled block whole lt = absurd (omega arith)
within (Some n) blocks times settled block whole lt = omega (arith, whole.within n refl)

pub whole_set : (count : Option ℕ) (blocks more : List (List ℕ)) (times later : List ℕ) (settled block : ℕ) → KeepsImage count blocks times → block < (disk_in count blocks times settled).count
    → length more ≡ length blocks → length later ≡ length times → KeepsImage count more later
unfolding disk_in
whole_set None blocks more times later settled block whole lt same_blocks same_times = absurd (omega arith)
whole_set (Some n) blocks more times later settled block whole lt same_blocks same_times = record {
  same = same_times ∙ whole.same ∙ sym same_blocks;
  most = omega (arith, whole.most);
  within = λ m e. omega (arith, whole.within m e);
  zeros = λ e. cc;
  unwritten = λ e. cc;
}

later-set : (times : List ℕ) (i time settled b : ℕ) → i < length times → settled < time
    → ltb settled (get_or (set times i time) b 0) ≡ cond (eqb b i) true (ltb settled (get_or times b 0))
later-set times i time settled b lt later = ⊎_elim
    (λ (same : b ≡ i). ap (ltb settled) (get_or-set times i time 0 b lt ∙ cond-true (eqb b i) time _ (eq-eqb b i same))
    ∙ search (rules, tests) ∙ sym (cond-true (eqb b i) true (ltb settled (get_or times b 0)) (eq-eqb b i same)))
    (λ (ne : b ≢ i). ap (ltb settled) (get_or-set times i time 0 b lt ∙ cond-false (eqb b i) time _ (ne_eqb b i ne))
    ∙ sym (cond-false (eqb b i) true (ltb settled (get_or times b 0)) (ne_eqb b i ne)))
    (cases_eq b i)

pub disk_in-put : (count : Option ℕ) (blocks : List (List ℕ)) (times : List ℕ) (settled block : ℕ) (bytes : List ℕ) (time : ℕ) → KeepsImage count blocks times
    → block < (disk_in count blocks times settled).count → settled < time
    → disk_in count (set blocks block bytes) (set times block time) settled ≡ written block bytes (disk_in count blocks times settled)
unfolding disk_in written
disk_in-put None blocks times settled block bytes time whole lt later = absurd (omega arith)
disk_in-put (Some n) blocks times settled block bytes time whole lt later =
    let here : block < length blocks = omega (arith, whole.within n refl) in
    let timed : block < length times = omega (arith, whole.same) in
    λ j. record {
      there = true;
      count = n;
      bytes = λ b. get_or-set blocks block bytes zero_block b here j;
      loose = λ b. later-set times block time settled b timed later j;
    }

pub disk_in-loosen : (count : Option ℕ) (blocks : List (List ℕ)) (times : List ℕ) (settled block time : ℕ) → KeepsImage count blocks times
    → block < (disk_in count blocks times settled).count → settled < time
    → disk_in count blocks (set times block time) settled ≡ loosened block (disk_in count blocks times settled)
unfolding disk_in loosened
disk_in-loosen None blocks times settled block time whole lt later = absurd (omega arith)
disk_in-loosen (Some n) blocks times settled block time whole lt later =
    let timed : block < length times = omega (arith, whole.same, whole.within n refl) in
    λ j. record {
      there = true;
      count = n;
      bytes = λ b. get_or blocks b zero_block;
      loose = λ b. later-set times block time settled b timed later j;
    }

not_later : (settled time : ℕ) → time ≤ settled → ltb settled time ≡ false
not_later settled time le = search (rules, tests)

pub disk_in-settle : (count : Option ℕ) (blocks : List (List ℕ)) (times : List ℕ) (settled time : ℕ) → ((b : ℕ) → get_or times b 0 ≤ time)
    → disk_in count blocks times time ≡ synced (disk_in count blocks times settled)
unfolding disk_in synced
disk_in-settle None blocks times settled time by = refl
disk_in-settle (Some n) blocks times settled time by = λ j. record {
  there = true;
  count = n;
  bytes = λ b. get_or blocks b zero_block;
  loose = λ b. not_later time (get_or times b 0) (by b) j;
}

pub disk_in-open : (blocks : List (List ℕ)) (times : List ℕ) (settled n : ℕ) → KeepsImage None blocks times → disk_in (Some n) blocks times settled ≡ zeros n
unfolding disk_in
disk_in-open blocks times settled n whole = λ j. record {
  there = true;
  count = n;
  bytes = λ b. whole.zeros refl b j;
  loose = λ b. (ap (ltb settled) (whole.unwritten refl b) ∙ not_later settled 0 (omega arith)) j;
}

pub disk_in-torn : (count : Option ℕ) (blocks more : List (List ℕ)) (times : List ℕ) (settled time : ℕ) (torn : List ℕ)
    → ((b : ℕ) → get_or more b zero_block ≡ cond (ltb settled (get_or times b 0)) torn (get_or blocks b zero_block)) → ((b : ℕ) → get_or times b 0 ≤ time)
    → disk_in count more times time ≡ torn_disk torn (disk_in count blocks times settled)
unfolding disk_in torn_disk
disk_in-torn None blocks more times settled time torn each by = refl
disk_in-torn (Some n) blocks more times settled time torn each by = λ j. record {
  there = true;
  count = n;
  bytes = λ b. each b j;
  loose = λ b. not_later time (get_or times b 0) (by b) j;
}

pub torn-nothing : (torn : List ℕ) (blocks more : List (List ℕ)) (times : List ℕ) (settled time : ℕ) → disk_in None more times time ≡ torn_disk torn (disk_in None blocks times settled)
unfolding disk_in torn_disk
torn-nothing torn blocks more times settled time = refl

pub disk-blank : (path : List ℕ) (n : ℕ) → disk_of (blank path n) ≡ nothing
unfolding disk_in
disk-blank path n = refl

pub bytes-disk_in : (count : Option ℕ) (blocks : List (List ℕ)) (times : List ℕ) (settled block : ℕ) → block < (disk_in count blocks times settled).count
    → (disk_in count blocks times settled).bytes block ≡ get_or blocks block zero_block
unfolding disk_in
bytes-disk_in None blocks times settled block lt = absurd (omega arith)
bytes-disk_in (Some n) blocks times settled block lt = refl
