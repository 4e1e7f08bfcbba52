-- Why a line of a proof is refused: a line has the first of these that fits it.
use Rattle.std.specs.Prelude.{ℕ, List, codes}

pub data Refusal : Type 0 where
  -- the words or the number of the fields are those of no line
  bad_word : Refusal
  -- a field that is no word of the format is not of its shape
  bad_number : Refusal
  -- the proof ends before the line does
  unended : Refusal
  -- no such line may stand here
  misplaced : Refusal
  -- a number names nothing that is kept, live or declared
  unknown_id : Refusal
  -- it is kept already
  repeated : Refusal
  -- no normal regex, or no well-formed atom
  not_normal : Refusal
  -- the classes and targets are no expansion of the regex
  wrong_target : Refusal
  -- a regex that is said to be dead is nullable
  holds_empty_word : Refusal
  -- a regex that is said to be dead has a target that is not
  not_closed : Refusal
  -- a hint neither forces a literal nor is false, or stands behind one that is false
  hint_idle : Refusal
  -- the clause does not follow by its rule
  rule_broken : Refusal
  -- the verdict does not follow, or the limit is passed
  wrong_verdict : Refusal
  -- the proof ends here
  missing_line : Refusal

-- the text of a refusal
abbrev pub reason : Refusal → List ℕ
reason bad_word = codes "bad word"
reason bad_number = codes "bad number"
reason unended = codes "unended line"
reason misplaced = codes "misplaced line"
reason unknown_id = codes "unknown id"
reason repeated = codes "repeated"
reason not_normal = codes "not normal"
reason wrong_target = codes "wrong target"
reason holds_empty_word = codes "holds the empty word"
reason not_closed = codes "not closed"
reason hint_idle = codes "idle hint"
reason rule_broken = codes "rule broken"
reason wrong_verdict = codes "wrong verdict"
reason missing_line = codes "missing line"
