-- How many parentheses are open behind one more token.
use Rattle.std.proofs.Common.{◌≡◌, ℕ, ◌-◌, ◌≤◌, zero, suc, true, false, List, [], ◌∷◌, ◌++◌, refl, arith, add-one, eqb, ne_eqb}
use Rattle.std.proofs.lemmas.List.{append_assoc, append-nil}
use Rattle.sb_reader.specs.Tokens.{Token, Open, Close, Text, Quoted, Run}
use Rattle.sb_reader.specs.OneEntry.{is_one_entry}
use Rattle.sb_reader.specs.Entries.{is_open_entry, is_parenthesis}
use Rattle.sb_reader.specs.Scanning.{LeavesOpen}

pub LeavesOpen-nil : LeavesOpen [] 0
LeavesOpen-nil = record { begins = refl; open_is = λ more. refl; one_is = λ token more. refl }

-- behind one more opening parenthesis
pub LeavesOpen-open : (tokens : List Token) (depth : ℕ) → LeavesOpen tokens depth
    → LeavesOpen (tokens ++ Open ∷ []) (suc depth)
LeavesOpen-open tokens zero l =
    record {
      begins = ([], rw l.begins refl);
      open_is = λ more. rw append_assoc (l.open_is (Open ∷ more));
      one_is = λ token more. rw append_assoc (l.one_is Open (token ∷ more));
    }
LeavesOpen-open tokens (suc depth) l =
    record {
      begins = (l.begins.0 ++ Open ∷ [], rw l.begins.1 refl);
      open_is = λ more. rw append_assoc (rw add-one at (l.open_is (Open ∷ more)));
      one_is = λ token more. rw append_assoc (rw add-one at (l.one_is Open (token ∷ more)));
    }

-- an atom changes nothing within a form
pub LeavesOpen-atom : (tokens : List Token) (depth : ℕ) (token : Token) → is_parenthesis token ≡ false
    → LeavesOpen tokens (suc depth) → LeavesOpen (tokens ++ token ∷ []) (suc depth)
LeavesOpen-atom tokens depth Open h l = cc
LeavesOpen-atom tokens depth Close h l = cc
LeavesOpen-atom tokens depth (Text bytes) h l =
    record {
      begins = (l.begins.0 ++ Text bytes ∷ [], rw l.begins.1 refl);
      open_is = λ more. rw append_assoc (l.open_is (Text bytes ∷ more));
      one_is = λ token more. rw append_assoc (l.one_is (Text bytes) (token ∷ more));
    }
LeavesOpen-atom tokens depth (Quoted bytes) h l =
    record {
      begins = (l.begins.0 ++ Quoted bytes ∷ [], rw l.begins.1 refl);
      open_is = λ more. rw append_assoc (l.open_is (Quoted bytes ∷ more));
      one_is = λ token more. rw append_assoc (l.one_is (Quoted bytes) (token ∷ more));
    }
LeavesOpen-atom tokens depth (Run bytes) h l =
    record {
      begins = (l.begins.0 ++ Run bytes ∷ [], rw l.begins.1 refl);
      open_is = λ more. rw append_assoc (l.open_is (Run bytes ∷ more));
      one_is = λ token more. rw append_assoc (l.one_is (Run bytes) (token ∷ more));
    }

-- a closing parenthesis that doesn't close the first one
pub LeavesOpen-close : (tokens : List Token) (depth : ℕ) → LeavesOpen tokens (suc (suc depth))
    → LeavesOpen (tokens ++ Close ∷ []) (suc depth)
LeavesOpen-close tokens depth l =
    let not_one : eqb (suc (suc depth)) 1 ≡ false = ne_eqb (suc (suc depth)) 1 (λ e. omega arith) in
    let one_less : suc (suc depth) - 1 ≡ suc depth = omega arith in
    record {
      begins = (l.begins.0 ++ Close ∷ [], rw l.begins.1 refl);
      open_is = λ more. rw append_assoc (rw (not_one, one_less) at (l.open_is (Close ∷ more)));
      one_is = λ token more. rw append_assoc (rw (not_one, one_less) at (l.one_is Close (token ∷ more)));
    }

-- the entry ends with an atom outside a form
pub one_atom : (tokens : List Token) (token : Token) → is_parenthesis token ≡ false → LeavesOpen tokens 0
    → is_one_entry (tokens ++ token ∷ []) ≡ true
one_atom tokens Open h l = cc
one_atom tokens Close h l = cc
one_atom tokens (Text bytes) h l = l.one_is (Text bytes) []
one_atom tokens (Quoted bytes) h l = l.one_is (Quoted bytes) []
one_atom tokens (Run bytes) h l = l.one_is (Run bytes) []

-- the entry ends with a closing parenthesis that closes the first one, or outside a form
pub one_close : (tokens : List Token) (depth : ℕ) → depth ≤ 1 → LeavesOpen tokens depth
    → is_one_entry (tokens ++ Close ∷ []) ≡ true
one_close tokens zero h l = l.one_is Close []
one_close tokens (suc zero) h l = l.one_is Close []
one_close tokens (suc (suc depth)) h l = absurd (omega arith)

-- no entry is whole in tokens that leave a form open
pub open_entry : (tokens : List Token) (depth : ℕ) → LeavesOpen tokens depth → is_open_entry tokens ≡ true
open_entry tokens zero l = rw (append-nil tokens) at (l.open_is [])
open_entry tokens (suc depth) l = rw (append-nil tokens) at (l.open_is [])
