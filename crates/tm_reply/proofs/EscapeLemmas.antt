-- What the crate's set escapes is what a printed word escapes.
use Rattle.std.proofs.Common.{◌≡◌, ℕ, ◌<◌, Bool, true, List, [], ◌∷◌, ◌++◌, All, refl, sym, ap, ap₂, ◌∙◌}
use Rattle.std.specs.Str.{bytes_eq}
use Rattle.std.proofs.lemmas.Bool.{agree_below, agree_below_at}
use Rattle.std.proofs.lemmas.Slice.Eq.{bytes_eq-Decides}
use Rattle.std.proofs.lemmas.List.Elements.{All-head, All-tail}
use Rattle.percent_encoding.specs.AsciiSet.{contains, should_percent_encode}
use Rattle.percent_encoding.specs.Percent.{percent_encode, percent_encode_byte, encode_byte, percent_decode}
use Rattle.percent_encoding.proofs.PercentLemmas.{IsByte, round_trip}
use Rattle.tm_reply.specs.declared.words.TheConstants.{ESCAPED}
use Rattle.tm_reply.specs.Escapes.{printed_byte, printed_word}

-- each byte in turn
abbrev same_byte : ℕ → Bool
same_byte b = bytes_eq (encode_byte ESCAPED b) (printed_byte b)

all_bytes : agree_below same_byte (λ _. true) 256 ≡ true
unfolding should_percent_encode percent_encode_byte
all_bytes = refl

encode_byte-printed_byte : (b : ℕ) → b < 256 → encode_byte ESCAPED b ≡ printed_byte b
encode_byte-printed_byte b small =
    (bytes_eq-Decides (encode_byte ESCAPED b) (printed_byte b)).0 (agree_below_at same_byte (λ _. true) 256 b all_bytes small)

pub percent_encode-printed_word : (bytes : List ℕ) → All IsByte bytes → percent_encode ESCAPED bytes ≡ printed_word bytes
unfolding percent_encode printed_word
percent_encode-printed_word [] small = refl
percent_encode-printed_word (b ∷ bytes) small =
    ap₂ (λ (x y : List ℕ). x ++ y) (encode_byte-printed_byte b (All-head IsByte b bytes small)) (percent_encode-printed_word bytes (All-tail IsByte b bytes small))

has_percent : contains ESCAPED 37 ≡ true
has_percent = refl

pub percent_decode-printed_word : (bytes : List ℕ) → All IsByte bytes → percent_decode (printed_word bytes) ≡ bytes
percent_decode-printed_word bytes small =
    ap percent_decode (sym (percent_encode-printed_word bytes small)) ∙ round_trip ESCAPED bytes has_percent small
