-- Reads a printed expression, a byte at a time. What is printed of an expression leads to it (`UnambiguousLemmas`), so no two print
-- alike. It stands for proofs alone: on other texts it does anything. Operands and links take turns, so a name is told from a link
-- by where it stands. A name in back quotes ends at one behind which there is no other.
use Rattle.std.proofs.Common.{ℕ, suc, ◌+◌, ◌-◌, ◌*◌, Bool, true, false, not, List, [], ◌∷◌, ◌++◌, drop, nat_lt, ◌==◌, if◌then◌else◌, codes, bytes_eq, pos, negsuc}
use Rattle.std.specs.Char.{is_ascii_digit}
use Rattle.msi_table_values.specs.CategoryRules.{starts_name, continues_name}
use Rattle.msi_table_values.specs.declared.value.Value.TheVariants.{Null, Int, Str}
use Rattle.msi_query_expressions.specs.declared.operators.UnaryOp.{UnaryOp}
use Rattle.msi_query_expressions.specs.declared.operators.UnaryOp.TheVariants as one
use Rattle.msi_query_expressions.specs.declared.operators.BinaryOp.{BinaryOp}
use Rattle.msi_query_expressions.specs.declared.operators.BinaryOp.TheVariants as two
use Rattle.msi_query_expressions.specs.Expressions.{Expression, literal, column, unary, binary, both, either}
use Rattle.msi_query_expressions.specs.OperatorTexts.{op_level, op_text}

-- what stands between two operands
pub data Link : Type 0 where
  by : BinaryOp → Link
  and_link : Link
  or_link : Link

abbrev pub linked : Link → Expression → Expression → Expression
linked (by op) l r = binary op l r
linked and_link l r = both l r
linked or_link l r = either l r

abbrev pub link_level : Link → ℕ
link_level (by op) = op_level op
link_level and_link = 2
link_level or_link = 1

abbrev pub link_text : Link → List ℕ
link_text (by op) = op_text op
link_text and_link = codes " AND "
link_text or_link = codes " OR "

-- the link of the text between the two spaces
abbrev pub link_of : List ℕ → Link
link_of text = if bytes_eq text (codes "=") then by two.Eq else (if bytes_eq text (codes "!=") then by two.Ne
    else (if bytes_eq text (codes "<") then by two.Lt else (if bytes_eq text (codes "<=") then by two.Le
    else (if bytes_eq text (codes ">") then by two.Gt else (if bytes_eq text (codes ">=") then by two.Ge
    else (if bytes_eq text (codes "|") then by two.BitOr else (if bytes_eq text (codes "^") then by two.BitXor
    else (if bytes_eq text (codes "&") then by two.BitAnd else (if bytes_eq text (codes "<<") then by two.Shl
    else (if bytes_eq text (codes ">>") then by two.Shr else (if bytes_eq text (codes "+") then by two.Add
    else (if bytes_eq text (codes "-") then by two.Sub else (if bytes_eq text (codes "*") then by two.Mul
    else (if bytes_eq text (codes "/") then by two.Div else (if bytes_eq text (codes "AND") then and_link else or_link)))))))))))))))

-- what waits for an operand to its right
pub data Frame : Type 0 where
  prefix : UnaryOp → Frame
  left : Link → Expression → Frame
  bracket : Frame

-- what is below this level goes inside
abbrev pub frame_level : Frame → ℕ
frame_level (prefix op) = 9
frame_level (left link l) = link_level link
frame_level bracket = 0

abbrev pub top_level : List Frame → ℕ
top_level [] = 0
top_level (f ∷ fs) = frame_level f

-- a minus before a number is the number's sign
abbrev pub prefixed : UnaryOp → Expression → Expression
prefixed one.Neg (literal (Int (pos (suc n)))) = literal (Int (negsuc n))
prefixed op e = unary op e

abbrev pub filled : Frame → Expression → Expression
filled (prefix op) e = prefixed op e
filled (left link l) e = linked link l e
filled bracket e = e

-- an operand with the frames around it
pub record Place : Type 0 where
  pub operand : Expression
  pub frames : List Frame

abbrev pub place : Expression → List Frame → Place
place e fs = record { operand = e; frames = fs }

-- the operand that a link of level k takes, and the frames around that
abbrev pub settled : ℕ → Expression → List Frame → Place
settled k e [] = place e []
settled k e (f ∷ fs) = if nat_lt (frame_level f) k then place e (f ∷ fs) else settled k (filled f e) fs

abbrev pub settle : ℕ → Place → Place
settle k p = settled k p.operand p.frames

pub data State : Type 0 where
  wanting : List Frame → State
  word : List ℕ → List Frame → State
  number : ℕ → List Frame → State
  quoted_name : List ℕ → List Frame → State
  -- behind a back quote, which ends the name if there is no other
  name_end : List ℕ → List Frame → State
  quote : List ℕ → List Frame → State
  escape : List ℕ → List Frame → State
  hex : List ℕ → ℕ → List Frame → State
  after : Place → State
  linking : List ℕ → Place → State

abbrev pub word_of : List ℕ → Expression
word_of name = if bytes_eq name (codes "NULL") then literal Null else column name

abbrev pub step_wanting : List Frame → ℕ → State
step_wanting fs c = if is_ascii_digit c then number (c - 48) fs else (if starts_name c then word (c ∷ []) fs
    else (if c == 34 then quote [] fs else (if c == 40 then wanting (bracket ∷ fs)
    else (if c == 96 then quoted_name [] fs else (if c == 45 then wanting (prefix one.Neg ∷ fs) else wanting (prefix one.BitNot ∷ fs))))))

abbrev pub closed : Place → State
closed p = after (place p.operand (drop 1 p.frames))

abbrev pub step_after : Place → ℕ → State
step_after p c = if c == 32 then linking [] p else closed (settle 1 p)

abbrev pub right_of : Link → Place → State
right_of link p = wanting (left link p.operand ∷ p.frames)

abbrev pub step_linking : List ℕ → Place → ℕ → State
step_linking text p c = if c == 32 then right_of (link_of text) (settle (link_level (link_of text)) p) else linking (text ++ c ∷ []) p

abbrev pub step_word : List ℕ → List Frame → ℕ → State
step_word name fs c = if continues_name c then word (name ++ c ∷ []) fs
    else (if bytes_eq name (codes "NOT") then wanting (prefix one.BoolNot ∷ fs) else step_after (place (word_of name) fs) c)

abbrev pub step_quoted_name : List ℕ → List Frame → ℕ → State
step_quoted_name name fs c = if c == 96 then name_end name fs else quoted_name (name ++ c ∷ []) fs

abbrev pub step_name_end : List ℕ → List Frame → ℕ → State
step_name_end name fs c = if c == 96 then quoted_name (name ++ 96 ∷ []) fs else step_after (place (column name) fs) c

abbrev pub step_number : ℕ → List Frame → ℕ → State
step_number n fs c = if is_ascii_digit c then number (n * 10 + (c - 48)) fs else step_after (place (literal (Int (pos n))) fs) c

abbrev pub step_quote : List ℕ → List Frame → ℕ → State
step_quote text fs c = if c == 34 then after (place (literal (Str text)) fs) else (if c == 92 then escape text fs else quote (text ++ c ∷ []) fs)

abbrev pub escaped : ℕ → ℕ
escaped c = if c == 48 then 0 else (if c == 116 then 9 else (if c == 110 then 10 else (if c == 114 then 13 else c)))

abbrev pub step_escape : List ℕ → List Frame → ℕ → State
step_escape text fs c = if c == 117 then hex text 0 fs else quote (text ++ escaped c ∷ []) fs

abbrev pub hex_value : ℕ → ℕ
hex_value c = if nat_lt c 58 then c - 48 else c - 87

abbrev pub step_hex : List ℕ → ℕ → List Frame → ℕ → State
step_hex text n fs c = if c == 123 then hex text n fs else (if c == 125 then quote (text ++ n ∷ []) fs else hex text (n * 16 + hex_value c) fs)

abbrev pub step : State → ℕ → State
step (wanting fs) c = step_wanting fs c
step (word name fs) c = step_word name fs c
step (number n fs) c = step_number n fs c
step (quoted_name name fs) c = step_quoted_name name fs c
step (name_end name fs) c = step_name_end name fs c
step (quote text fs) c = step_quote text fs c
step (escape text fs) c = step_escape text fs c
step (hex text n fs) c = step_hex text n fs c
step (after p) c = step_after p c
step (linking text p) c = step_linking text p c

abbrev pub run : State → List ℕ → State
run s [] = s
run s (c ∷ cs) = run (step s c) cs

-- an operand may end here
abbrev pub is_ready : State → Bool
is_ready (word name fs) = not (bytes_eq name (codes "NOT"))
is_ready (number n fs) = true
is_ready (name_end name fs) = true
is_ready (after p) = true
is_ready _ = false

abbrev pub place_of : State → Place
place_of (word name fs) = place (word_of name) fs
place_of (number n fs) = place (literal (Int (pos n))) fs
place_of (name_end name fs) = place (column name) fs
place_of (after p) = p
place_of _ = place (literal Null) []

-- the expression that a whole text leads to
abbrev pub read : List ℕ → Expression
read text = let p = settle 1 (place_of (run (wanting []) text)) in p.operand
