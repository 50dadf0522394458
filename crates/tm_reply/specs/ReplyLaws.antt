-- What the texts of replies keep.
use Rattle.std.specs.Prelude.{◌≡◌, ℕ, ◌<◌, ◌==◌, ◌&&◌, ◌||◌, not, Bool, true, List, [], ◌∷◌, ◌++◌, length, All, nat_eq, codes}
use Rattle.std.specs.List.{list_all, starts_with}
use Rattle.std.specs.Str.{bytes_eq}
use Rattle.percent_encoding.specs.Percent.{percent_decode}
use Rattle.tm_reply.specs.Escapes.{printed_word}
use Rattle.tm_reply.specs.Replies.{reply_text}
use Rattle.tm_reply.specs.declared.reply.Reply.{Reply}

-- no byte of the line ends it
abbrev pub is_unbroken : List ℕ → Bool
is_unbroken line = list_all (λ b. not (b == 0x0A)) line

-- the line is `ok`, or its first word is `refused`
abbrev pub closes : List ℕ → Bool
closes line = bytes_eq line (codes "ok") || starts_with nat_eq line (codes "refused ")

-- the line is one, and closes no reply
abbrev pub goes_on : List ℕ → Bool
goes_on line = is_unbroken line && not (closes line)

-- the lines, each with its end, and then the rest
abbrev pub lines_then : List (List ℕ) → List ℕ → List ℕ
lines_then [] rest = rest
lines_then (line ∷ lines) rest = line ++ 0x0A ∷ lines_then lines rest

-- The text is lines, of which the last closes a reply and no other does.
pub record ClosesOnce (text : List ℕ) : Type 0 where
  pub rows : List (List ℕ)
  pub closing : List ℕ
  pub text_is : text ≡ lines_then rows (closing ++ 0x0A ∷ [])
  pub go_on : list_all goes_on rows ≡ true
  pub unbroken : is_unbroken closing ≡ true
  pub closes_it : closes closing ≡ true

-- a reply's text ends with the first line that closes a reply
abbrev pub EachTextClosesOnce : Type 0
EachTextClosesOnce = (reply : Reply) → ClosesOnce (reply_text reply)

-- where texts follow one another, only one reply's text stands first
abbrev pub TextsSplitInOneWay : Type 0
TextsSplitInOneWay =
    (r s : Reply) (x y : List ℕ) → reply_text r ++ x ≡ reply_text s ++ y → (reply_text r ≡ reply_text s) × (x ≡ y)

-- a reply's text is not empty
abbrev pub ReplyIsSome : Type 0
ReplyIsSome = (reply : Reply) → 0 < length (reply_text reply)

-- a printed word decodes to its bytes
abbrev pub WordsDecode : Type 0
WordsDecode = (bytes : List ℕ) → All (λ b. b < 256) bytes → percent_decode (printed_word bytes) ≡ bytes
