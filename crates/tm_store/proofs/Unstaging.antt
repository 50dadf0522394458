-- Some of the staged blocks are given back.
use Rattle.std.proofs.Common.{◌≡◌, ◌≢◌, ⊎_elim, ℕ, ◌+◌, ◌≤◌, ◌<◌, ◌==◌, Bool, true, false, not, cond, ◌||◌, None, List, [], ◌∷◌, filter, length, refl, sym, ap, ◌∙◌, subst, arith}
use Rattle.std.specs.List.{list_any}
use Rattle.std.proofs.lemmas.Bool.{cases_eq, cases_lt}
use Rattle.std.proofs.lemmas.Bool.Decides.{nat_tests}
use Rattle.tm_blockmap.specs.Counts.{times}
use Rattle.tm_store_records.specs.Held.{Held}
use Rattle.tm_image.specs.Content.{Content}
use Rattle.tm_image.specs.Room.{HasRoom, free_of}
use Rattle.tm_image.specs.Seen.{Seen, IsSettled, content_of}
use Rattle.tm_table.specs.Text.{table_text}
use Rattle.tm_blockmap.proofs.Counting.{one_other, one_same, times-cons}

abbrev pub left_of : List ℕ → List ℕ → List ℕ
left_of blocks staged = filter (λ b. not (list_any (λ x. x == b) blocks)) staged

truths : {P : Type 0} (b : Bool) → b ≡ true → b ≡ false → P
truths b e f = let no : true ≡ false = sym e ∙ f in cc

either : (a b : Bool) → b ≡ true → (a || b) ≡ true
either true b h = refl
either false b h = h

equal_test : (x b : ℕ) → x ≡ b → (x == b) ≡ true
equal_test x b e = grind (arith, nat_tests)

other_test : (x b : ℕ) → x ≢ b → (x == b) ≡ false
other_test x b e = grind (arith, nat_tests)

-- a block that stands in the list
any_is : (b : ℕ) (blocks : List ℕ) → 0 < times b blocks → list_any (λ x. x == b) blocks ≡ true
any_is b [] some = absurd (omega arith)
any_is b (x ∷ xs) some = ⊎_elim
    (λ (same : x ≡ b). ap (λ t. t || list_any (λ x. x == b) xs) (equal_test x b same))
    (λ (other : x ≢ b). either (x == b) _ (any_is b xs (omega (arith, times-cons b x xs, one_other x b other, some))))
    (cases_eq x b)

none_is : (b : ℕ) (blocks : List ℕ) → times b blocks ≡ 0 → list_any (λ x. x == b) blocks ≡ false
none_is b [] none = refl
none_is b (x ∷ xs) none = ⊎_elim
    (λ (same : x ≡ b). absurd (omega (arith, times-cons b x xs, one_same x b same, none)))
    (λ (other : x ≢ b). ap (λ t. t || list_any (λ x. x == b) xs) (other_test x b other) ∙ none_is b xs (omega (arith, times-cons b x xs, none)))
    (cases_eq x b)

-- what is kept of a block: all where it doesn't stand in the list, and none where it does
kept_all : (b : ℕ) (blocks staged : List ℕ) → list_any (λ x. x == b) blocks ≡ false → times b (left_of blocks staged) ≡ times b staged
kept_all b blocks [] none = refl
kept_all b blocks (y ∷ ys) none = by_test (list_any (λ x. x == y) blocks) refl (kept_all b blocks ys none)
  where
    by_test : (t : Bool) → list_any (λ x. x == y) blocks ≡ t → times b (left_of blocks ys) ≡ times b ys → times b (cond (not t) (y ∷ left_of blocks ys) (left_of blocks ys)) ≡ times b (y ∷ ys)
    by_test true e rest = ⊎_elim
        (λ (same : y ≡ b). truths (list_any (λ x. x == b) blocks) (subst (λ q. list_any (λ x. x == q) blocks ≡ true) same e) none)
        (λ (other : y ≢ b). omega (arith, rest, times-cons b y ys, one_other y b other))
        (cases_eq y b)
    by_test false e rest = omega (arith, rest, times-cons b y ys, times-cons b y (left_of blocks ys))

kept_none : (b : ℕ) (blocks staged : List ℕ) → list_any (λ x. x == b) blocks ≡ true → times b (left_of blocks staged) ≡ 0
kept_none b blocks [] some = refl
kept_none b blocks (y ∷ ys) some = by_test (list_any (λ x. x == y) blocks) refl (kept_none b blocks ys some)
  where
    by_test : (t : Bool) → list_any (λ x. x == y) blocks ≡ t → times b (left_of blocks ys) ≡ 0 → times b (cond (not t) (y ∷ left_of blocks ys) (left_of blocks ys)) ≡ 0
    by_test true e rest = rest
    by_test false e rest = ⊎_elim
        (λ (same : y ≡ b). truths (list_any (λ x. x == b) blocks) some (subst (λ q. list_any (λ x. x == q) blocks ≡ false) same e))
        (λ (other : y ≢ b). omega (arith, rest, times-cons b y (left_of blocks ys), one_other y b other))
        (cases_eq y b)

-- where no block is staged twice, what is taken out and what is left add up
pub taken_out : (blocks staged : List ℕ) → ((b : ℕ) → times b blocks ≤ times b staged) → ((b : ℕ) → times b staged ≤ 1) → (b : ℕ) → times b (left_of blocks staged) + times b blocks ≡ times b staged
taken_out blocks staged within once b = ⊎_elim
    (λ (some : 0 < times b blocks). omega (arith, kept_none b blocks staged (any_is b blocks some), within b, once b, some))
    (λ (none : times b blocks ≤ 0). omega (arith, none, kept_all b blocks staged (none_is b blocks (omega (arith, none)))))
    (cases_lt 0 (times b blocks))

-- ---- no backup runs any more

-- what stays of a store when it is left with this image, without a date, and with nothing staged
pub record IsIdle (h k : Held) : Type 0 where
  pub machine : k.machine ≡ h.machine
  pub number : k.number ≡ h.number
  pub nodes : k.nodes ≡ h.nodes
  pub snapshots : k.snapshots ≡ h.snapshots
  pub running : k.running ≡ None
  pub stored : k.stored ≡ None
  pub staged : k.staged ≡ []

pub is_idle : (h k : Held) (image : Seen) → k ≡ record h { image = image; running = None; stored = None; staged = [] } → IsIdle h k
is_idle h k image same = record {
  machine = ap (λ (q : Held). q.machine) same;
  number = ap (λ (q : Held). q.number) same;
  nodes = ap (λ (q : Held). q.nodes) same;
  snapshots = ap (λ (q : Held). q.snapshots) same;
  running = ap (λ (q : Held). q.running) same;
  stored = ap (λ (q : Held). q.stored) same;
  staged = ap (λ (q : Held). q.staged) same;
}

-- ---- the content stays

pub settled_content : (m n : Seen) → content_of n ≡ content_of m → IsSettled m → IsSettled n
settled_content m n content settled = ap (λ (x : Content). x.root.table_len) content ∙ settled ∙ ap (λ (x : Content). length (table_text x.records)) (sym content)

pub room_content : (m n : Seen) → content_of n ≡ content_of m → free_of m ≤ free_of n → HasRoom m → HasRoom n
room_content m n content more room = omega (arith, more, room, ap (λ (x : Content). length x.layout) content)
