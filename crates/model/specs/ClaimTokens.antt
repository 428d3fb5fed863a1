-- "The tool must read the Hanoi Omega-Automata format, version 1, to 16,384 bytes": the format's tokens, and those of a
-- text, byte by byte. Assumes nothing: these are definitions.
use Rattle.std.specs.Prelude.{Bool, false, ◌&&◌, ◌||◌, cond, List, [], ◌∷◌, ◌++◌, ℕ, zero, suc, ◌+◌, ◌*◌, ◌-◌, leb, eqb, length}
use Rattle.text.specs.Ascii.{ascii, space, minus, digit_0}
use Rattle.text.specs.Lines.{equal, begins}
use Rattle.text.specs.Numbers.{is_digit}
use Rattle.model.specs.Run.{member}

-- TOKENS: a name; a header's name, told by its colon; an integer; a string, by the bytes between its quotes; a symbol;
-- --BODY-- and --END--; an alias and a comment, told by their first two bytes; any other byte, which no token begins with
pub data Token : Type 0 where
  name : (bytes : List ℕ) → Token
  header : (bytes : List ℕ) → Token
  number : (value : ℕ) → Token
  string : (bytes : List ℕ) → Token
  symbol : (byte : ℕ) → Token
  body_mark end_mark alias comment stray : Token

-- LIMITS: "to 16,384 bytes"; an integer of the format is below 2 to the power 31
abbrev pub longest_claim : ℕ
longest_claim = 16384

abbrev pub number_end : ℕ
number_end = 2147483648

-- BYTES
abbrev pub quote : ℕ
quote = 34

abbrev pub star : ℕ
star = 42

abbrev pub slash_byte : ℕ
slash_byte = 47

abbrev pub colon : ℕ
colon = 58

abbrev pub at_byte : ℕ
at_byte = 64

abbrev pub backslash : ℕ
backslash = 92

abbrev pub underscore : ℕ
underscore = 95

-- space, tab, line feed, vertical tab, form feed, carriage return
unfoldable pub is_blank : ℕ → Bool
is_blank b = eqb b space || (leb 9 b && leb b 13)

unfoldable pub is_capital : ℕ → Bool
is_capital b = leb 65 b && leb b 90

unfoldable pub is_small : ℕ → Bool
is_small b = leb 97 b && leb b 122

unfoldable pub is_letter : ℕ → Bool
is_letter b = (is_capital b || is_small b) || eqb b underscore

unfoldable pub is_name_byte : ℕ → Bool
is_name_byte b = is_letter b || (is_digit b || eqb b minus)

unfoldable pub is_symbol : ℕ → Bool
is_symbol b = member b (ascii "[](){}!&|")

-- MODES: what is under way before a byte. Nothing; nothing more to tell, after a token that ends every reading; after @
-- or /; inside a name, a string, a string after a backslash, or what may become --BODY-- or --END--, with the bytes so
-- far; inside a number, with its value so far
pub data Mode : Type 0 where
  between lost at_sign slash : Mode
  in_name in_string escaped in_mark : (so_far : List ℕ) → Mode
  in_number : (so_far : ℕ) → Mode

-- the tokens that a byte completes, and the mode after it
pub record Lexed : Type 0 where
  pub tokens : List Token
  pub mode : Mode

abbrev pub goes_on : Mode → Lexed
goes_on m = record { tokens = []; mode = m }

abbrev pub ends : Token → Lexed
ends t = record { tokens = t ∷ []; mode = between }

abbrev pub breaks : Token → Lexed
breaks t = record { tokens = t ∷ []; mode = lost }

abbrev pub after : Token → Lexed → Lexed
after t l = record { tokens = t ∷ l.tokens; mode = l.mode }

-- a byte where no token is under way
unfoldable pub begin : ℕ → Lexed
begin b =
    cond (is_blank b) (goes_on between)
    (cond (is_letter b) (goes_on (in_name (b ∷ [])))
    (cond (is_digit b) (goes_on (in_number (b - digit_0)))
    (cond (is_symbol b) (ends (symbol b))
    (cond (eqb b quote) (goes_on (in_string []))
    (cond (eqb b minus) (goes_on (in_mark (b ∷ [])))
    (cond (eqb b at_byte) (goes_on at_sign)
    (cond (eqb b slash_byte) (goes_on slash)
    (breaks stray))))))))

-- the next digit of a number: none follows a leading 0, and none makes it too large
unfoldable pub digit_more : (so_far : ℕ) → ℕ → Lexed
digit_more v b =
    let w = 10 * v + (b - digit_0) in
    cond (eqb v 0 || leb number_end w) (breaks stray) (goes_on (in_number w))

-- the bytes from a minus sign on, as long as --BODY-- or --END-- begins with them
unfoldable pub mark_more : List ℕ → Lexed
mark_more w =
    cond (equal w (ascii "--BODY--")) (ends body_mark)
    (cond (equal w (ascii "--END--")) (ends end_mark)
    (cond (begins w (ascii "--BODY--") || begins w (ascii "--END--")) (goes_on (in_mark w))
    (breaks stray)))

-- THE MACHINE: what a byte does in each mode. The longest match: a name or a number goes on as long as it can, and the
-- byte after it tells it
unfoldable pub byte : Mode → ℕ → Lexed
byte between b = begin b
byte lost b = goes_on lost
byte at_sign b = breaks (cond (is_name_byte b) alias stray)
byte slash b = breaks (cond (eqb b star) comment stray)
byte (in_name w) b =
    cond (is_name_byte b) (goes_on (in_name (w ++ (b ∷ []))))
    (cond (eqb b colon) (ends (header w))
    (after (name w) (begin b)))
byte (in_string w) b =
    cond (eqb b quote) (ends (string w))
    (cond (eqb b backslash) (goes_on (escaped (w ++ (b ∷ []))))
    (goes_on (in_string (w ++ (b ∷ [])))))
byte (escaped w) b = goes_on (in_string (w ++ (b ∷ [])))
byte (in_mark w) b = mark_more (w ++ (b ∷ []))
byte (in_number v) b = cond (is_digit b) (digit_more v b) (after (number v) (begin b))

-- what the text's end tells
unfoldable pub at_end : Mode → List Token
at_end between = []
at_end lost = []
at_end at_sign = stray ∷ []
at_end slash = stray ∷ []
at_end (in_name w) = name w ∷ []
at_end (in_string w) = stray ∷ []
at_end (escaped w) = stray ∷ []
at_end (in_mark w) = stray ∷ []
at_end (in_number v) = number v ∷ []

-- the tokens of a text of which so many bytes are looked at: "too great a length at byte 16,385" is a stray byte there
unfoldable pub lex : (left : ℕ) → Mode → List ℕ → List Token
lex k m [] = at_end m
lex zero m (b ∷ bs) = stray ∷ []
lex (suc k) m (b ∷ bs) = let l = byte m b in l.tokens ++ lex k l.mode bs

unfoldable pub tokens : (text : List ℕ) → List Token
tokens bs = lex longest_claim between bs

-- 14: "the text does not open with the tokens `HOA:` and v1, blanks aside", of a text of any length
unfoldable pub is_header : (bytes : List ℕ) → Token → Bool
is_header w (header v) = equal v w
is_header w (name v) = false
is_header w (number v) = false
is_header w (string v) = false
is_header w (symbol v) = false
is_header w body_mark = false
is_header w end_mark = false
is_header w alias = false
is_header w comment = false
is_header w stray = false

unfoldable pub is_name : (bytes : List ℕ) → Token → Bool
is_name w (name v) = equal v w
is_name w (header v) = false
is_name w (number v) = false
is_name w (string v) = false
is_name w (symbol v) = false
is_name w body_mark = false
is_name w end_mark = false
is_name w alias = false
is_name w comment = false
is_name w stray = false

unfoldable pub opens_so : List Token → Bool
opens_so [] = false
opens_so (t ∷ []) = false
opens_so (t ∷ u ∷ ts) = is_header (ascii "HOA") t && is_name (ascii "v1") u

unfoldable pub opens : (text : List ℕ) → Bool
opens bs = opens_so (lex (length bs) between bs)
