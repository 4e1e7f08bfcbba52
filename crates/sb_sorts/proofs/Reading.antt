-- Reading of lists: what a list begins with, and its arguments one by one.
use Rattle.std.proofs.Common.{◌≡◌, ℕ, zero, suc, ◌<◌, ◌≤◌, Bool, true, false, ◌&&◌, if◌then◌else◌, List, [], ◌∷◌, ◌++◌, length, codes, Result, Ok, Err, OnOk, MatchResult, sym, refl, ap, subst, ◌∙◌, arith, append_assoc, true≢false}
use Rattle.std.proofs.lemmas.Bool.{and_parts, false≢true}
use Rattle.std.proofs.lemmas.List.{map-append, append-nil}
use Rattle.sb_reader.specs.Forms.{Form, Forms, Symbol, QuotedSymbol, Keyword, Numeral, OtherNumber, Words, Group, none, more}
use Rattle.sb_script.specs.Names.{Name, is_name, is_reserved}
use Rattle.sb_script.specs.Scopes.{Naming}
use Rattle.sb_meaning.specs.Terms as meaning
use Rattle.sb_script.specs.Faults.{Fault, malformed}
use Rattle.sb_script.specs.Heads.{Head, applied_to, read_head}
use Rattle.sb_script.specs.Reading.{◌>>=◌, read, read_all, read_list, read_let, read_index_list, read_list_head, read_reserved, is_let}
use Rattle.std.specs.List.{list_all}
use Rattle.sb_term.specs.Numbered.{term_at, terms_at, AllNumbers, Extends}
use Rattle.sb_term.specs.Serials.{has_serials_below}
use Rattle.sb_term.proofs.CallerLemmas.{extends_same, extends_more, ats_kept, numbers_kept}
use Rattle.sb_sorts.specs.declared.read.ReadFault.{ReadFault}
use Rattle.sb_sorts.specs.declared.read.ReadFault.TheVariants as fault
use Rattle.sb_sorts.specs.Growth.{Grows, AreRead}
use Rattle.sb_sorts.specs.Reads.{ReadsAs, Faults}
use Rattle.sb_sorts.specs.Heads.{Beginning, whole, takes, beginning_of}
use Rattle.sb_sorts.specs.Scopes.{ScopeNames}
use Rattle.sb_sorts.specs.Locals.{names_at, AreAt}
use Rattle.sb_sorts.specs.Binding.{is_let_list, others_of}
use Rattle.sb_sorts.proofs.Bound.{same_name}
use Rattle.sb_sorts.proofs.Sizes.{size_of_all, size_of_more}
use Rattle.sb_sorts.proofs.Staying.{names_at_stay, at_stays}

-- how a table grows
pub grows_same : (n : ℕ) (ts : List meaning.Term) → Grows n ts ts
grows_same n ts = record { extends = extends_same ts; below = λ h. h }

pub grows_more : (n : ℕ) (a b c : List meaning.Term) → Grows n a b → Grows n b c → Grows n a c
grows_more n a b c p q =
    record { extends = extends_more a b c p.extends q.extends; below = λ h. q.below (p.below h) }

-- one more term that speaks of no constant
pub grows_put : (old new : List meaning.Term) (t : meaning.Term) → Extends old new
    → ((test : meaning.Term → Bool) → list_all test old ≡ true → test t ≡ true → list_all test new ≡ true)
    → ((n : ℕ) → has_serials_below n t ≡ true) → (n : ℕ) → Grows n old new
grows_put old new t extends only unsaid n =
    record { extends = extends; below = λ h. only (has_serials_below n) h (unsaid n) }

-- a fault stays the first whatever would follow
pub faults_first : {A B : Type 0} (reading : Result A Fault) (f : A → Result B Fault) (e : ReadFault) → Faults reading e
    → Faults (reading >>= f) e
faults_first reading f (fault.UnknownSymbol name) h = ap (λ r. r >>= f) h
faults_first reading f fault.WrongSort h = ap (λ r. r >>= f) h
faults_first reading f fault.WrongCount h = ap (λ r. r >>= f) h
faults_first reading f fault.BadIndex h = ap (λ r. r >>= f) h
faults_first reading f fault.NumeralTooLarge h = ap (λ r. r >>= f) h
faults_first reading f fault.Unsupported h = ap (λ r. r >>= f) h
faults_first reading f fault.BadLiteral h = ap (λ r. r >>= f) h
faults_first reading f fault.Malformed h = ap (λ r. r >>= f) h
faults_first reading f (fault.AlreadyBound name) h = ap (λ r. r >>= f) h
faults_first reading f fault.NoMemory h = h

-- the rest of a list, by what it begins with
abbrev pub finished : List Naming → Forms → Beginning → Result meaning.Term Fault
finished names others (whole h) = applied_to h []
finished names others (takes h) = read_all names others >>= applied_to h

with_head : (names : List Naming) (others : Forms) (reading : Result Head Fault)
    → (reading >>= (λ h. read_all names others >>= applied_to h))
    ≡ ((reading >>= (λ h. Ok (takes h))) >>= finished names others)
with_head names others (Ok h) = refl
with_head names others (Err fault) = refl

alone : (names : List Naming) (others : Forms) (reading : Result Head Fault)
    → (reading >>= (λ h. applied_to h [])) ≡ ((reading >>= (λ h. Ok (whole h))) >>= finished names others)
alone names others (Ok h) = refl
alone names others (Err fault) = refl

by_symbol : (names : List Naming) (others : Forms) (underscore lets reserved : Bool) (index word : Result Head Fault)
    (bound : Result meaning.Term Fault) (f : Fault) → lets ≡ false
    → (if underscore then index >>= (λ h. applied_to h []) else if lets then bound else if reserved then Err f
    else word >>= (λ h. read_all names others >>= applied_to h))
    ≡ ((if underscore then index >>= (λ h. Ok (whole h)) else if reserved then Err f else word >>= (λ h. Ok (takes h)))
    >>= finished names others)
by_symbol names others true lets reserved index word bound f h = alone names others index
by_symbol names others false true reserved index word bound f h = absurd (true≢false h)
by_symbol names others false false true index word bound f h = refl
by_symbol names others false false false index word bound f h = with_head names others word

begins_list : (names : List Naming) (first : Form) (second : Form) (rest : Forms)
    → is_let_list (more first (more second rest)) ≡ false
    → read_list names (more first (more second rest))
    ≡ (beginning_of names first (more second rest) >>= finished names (more second rest))
begins_list names (Symbol name) second rest h =
    by_symbol names (more second rest) (is_name name (codes "_"))
    (is_name name (codes "let") && is_let (more second rest)) (is_reserved name)
    (read_index_list names (more second rest)) (read_head names name) (read_let names (more second rest))
    (read_reserved name (more second rest)) h
begins_list names (QuotedSymbol name) second rest h = with_head names (more second rest) (read_head names name)
begins_list names (Group list) second rest h = with_head names (more second rest) (read_list_head names list)
begins_list names (Keyword name) second rest h = refl
begins_list names (Numeral digits) second rest h = refl
begins_list names (OtherNumber bytes) second rest h = refl
begins_list names (Words bytes) second rest h = refl

one_form : (names : List Naming) (first : Form) → read_list names (more first none) ≡ Err malformed
one_form names (Symbol name) = refl
one_form names (QuotedSymbol name) = refl
one_form names (Group list) = refl
one_form names (Keyword name) = refl
one_form names (Numeral digits) = refl
one_form names (OtherNumber bytes) = refl
one_form names (Words bytes) = refl

list_begun : (names : List Naming) (first : Form) (others : Forms) → is_let_list (more first others) ≡ false
    → read_list names (more first others) ≡ (beginning_of names first others >>= finished names others)
list_begun names first none h = one_form names first
list_begun names first (more second rest) h = begins_list names first second rest h

-- a list that is no let, by its first form and the others
pub list_split : (names : List Naming) (forms others : Forms) (first : Form) → forms ≡ more first others
    → is_let_list forms ≡ false
    → read_list names forms ≡ (beginning_of names first others >>= finished names others)
list_split names forms others first is h =
    ap (read_list names) is ∙ list_begun names first others (sym (ap is_let_list is) ∙ h)

-- and one that is
second_way : (underscore lets : Bool) (x y z : Result meaning.Term Fault) → underscore ≡ false → lets ≡ true
    → (if underscore then x else if lets then y else z) ≡ y
second_way true lets x y z u l = absurd (true≢false u)
second_way false false x y z u l = absurd (false≢true l)
second_way false true x y z u l = refl

pub list_let : (names : List Naming) (forms others : Forms) → others_of forms ≡ others → is_let_list forms ≡ true
    → read_list names forms ≡ read_let names others
list_let names none others is h = absurd (false≢true h)
list_let names (more (QuotedSymbol name) fs) others is h = absurd (false≢true h)
list_let names (more (Keyword name) fs) others is h = absurd (false≢true h)
list_let names (more (Numeral digits) fs) others is h = absurd (false≢true h)
list_let names (more (OtherNumber bytes) fs) others is h = absurd (false≢true h)
list_let names (more (Words bytes) fs) others is h = absurd (false≢true h)
list_let names (more (Group list) fs) others is h = absurd (false≢true h)
list_let names (more (Symbol name) none) others is h =
    absurd (false≢true ((and_parts (is_name name (codes "let")) false h).1))
list_let names (more (Symbol name) (more f rest)) others is h =
    let parts = and_parts (is_name name (codes "let")) (is_let (more f rest)) h in
    second_way (is_name name (codes "_")) (is_name name (codes "let") && is_let (more f rest))
    (read_index_list names (more f rest) >>= (λ head. applied_to head [])) (read_let names (more f rest))
    (if is_reserved name then Err (read_reserved name (more f rest))
    else read_head names name >>= (λ head. read_all names (more f rest) >>= applied_to head))
    (ap (λ n. is_name n (codes "_")) (same_name name (codes "let") parts.0)) h
    ∙ ap (read_let names) is

-- What stays while a list is read: what was bound, and so the names in force.

pub record Stays (n : ℕ) (scope : ScopeNames) (start : List meaning.Term) (locals : List (Name × ℕ))
    (ts : List meaning.Term) (now : List (Name × ℕ)) : Type 0
  where
    pub same : now ≡ locals
    pub grows : Grows n start ts
    pub names : names_at ts now scope ≡ names_at start locals scope
    pub at : AreAt ts now scope

module _ (n : ℕ) (scope : ScopeNames) (start : List meaning.Term) (locals : List (Name × ℕ)) where
  pub stays_first : AreAt start locals scope → Stays n scope start locals start locals
  stays_first at = record { same = refl; grows = grows_same n start; names = refl; at = at }

  pub stays_more : (ts us : List meaning.Term) (now next : List (Name × ℕ)) → Stays n scope start locals ts now
      → Grows n ts us → next ≡ now → Stays n scope start locals us next
  stays_more ts us now next so_far grows same =
      subst (λ l. Stays n scope start locals us l) (sym same) (record {
        same = so_far.same;
        grows = grows_more n start ts us so_far.grows grows;
        names = names_at_stay ts us now scope grows.extends so_far.at ∙ so_far.names;
        at = at_stays ts us now scope grows.extends so_far.at;
      })

-- Lists that are read one form after the other.

pub none_before : {A : Type 0} (reading : Result (List A) Fault) → reading ≡ (reading >>= (λ us. Ok ([] ++ us)))
none_before (Ok us) = refl
none_before (Err fault) = refl

pushed : {A : Type 0} (done : List A) (t : A) (reading : Result (List A) Fault)
    → ((reading >>= (λ us. Ok (t ∷ us))) >>= (λ us. Ok (done ++ us)))
    ≡ (reading >>= (λ us. Ok ((done ++ t ∷ []) ++ us)))
pushed done t (Ok us) = ap Ok (sym (append_assoc done (t ∷ []) us))
pushed done t (Err fault) = refl

-- one more was read, of which that is made
module _ {A B : Type 0} (made : B → A) (done : List A) (reading all left : Result (List A) Fault) (one : Result B Fault)
    (so_far : reading ≡ (all >>= (λ us. Ok (done ++ us))))
    (split : all ≡ (one >>= (λ t. left >>= (λ us. Ok (made t ∷ us))))) where
  pub one_more : (t : B) → one ≡ Ok t → reading ≡ (left >>= (λ us. Ok ((done ++ made t ∷ []) ++ us)))
  one_more t here =
      so_far
      ∙ ap (λ r. r >>= (λ us. Ok (done ++ us))) (split ∙ ap (λ o. o >>= (λ t. left >>= (λ us. Ok (made t ∷ us)))) here)
      ∙ pushed done (made t) left

  pub one_fault : (e : ReadFault) → Faults one e → Faults reading e
  one_fault e h =
      subst (λ r. Faults r e) (sym (so_far ∙ ap (λ r. r >>= (λ us. Ok (done ++ us))) split))
      (faults_first (one >>= (λ t. left >>= (λ us. Ok (made t ∷ us)))) (λ us. Ok (done ++ us)) e
      (faults_first one (λ t. left >>= (λ us. Ok (made t ∷ us))) e h))

-- none is left
pub none_left : {A : Type 0} (done : List A) (reading left : Result (List A) Fault)
    → reading ≡ (left >>= (λ us. Ok (done ++ us))) → left ≡ Ok [] → reading ≡ Ok done
none_left done reading left so_far empty =
    so_far ∙ ap (λ r. r >>= (λ us. Ok (done ++ us))) empty ∙ ap Ok (append-nil done)

pub numbers_push : (ts : List meaning.Term) (ids : List ℕ) (id : ℕ) → AllNumbers ts ids → id < length ts
    → AllNumbers ts (ids ++ id ∷ [])
numbers_push ts [] id all here zero d l = here
numbers_push ts [] id all here (suc k) d l = absurd (omega arith)
numbers_push ts (i ∷ ids) id all here zero d l = all 0 0 (omega arith)
numbers_push ts (i ∷ ids) id all here (suc k) d l =
    numbers_push ts ids id (λ j e m. all (suc j) e (omega (arith, m))) here k d (omega arith)

-- the numbers that were read so far, and what is left to read
pub record HasRead (n : ℕ) (scope : ScopeNames) (start : List meaning.Term) (locals : List (Name × ℕ)) (forms : Forms)
    (ts : List meaning.Term) (now : List (Name × ℕ)) (ids : List ℕ) (left : Forms) : Type 0
  where
    pub all : read_all (names_at start locals scope) forms
        ≡ (read_all (names_at start locals scope) left >>= (λ us. Ok (terms_at ts ids ++ us)))
    pub no_larger : size_of_all left ≤ size_of_all forms
    pub numbers : AllNumbers ts ids
    pub stays : Stays n scope start locals ts now

pub has_read_none : (n : ℕ) (scope : ScopeNames) (start : List meaning.Term) (locals : List (Name × ℕ)) (forms : Forms)
    (ids : List ℕ) → ids ≡ [] → AreAt start locals scope → HasRead n scope start locals forms start locals ids forms
has_read_none n scope start locals forms ids empty at =
    subst (λ is. HasRead n scope start locals forms start locals is forms) (sym empty) (record {
      all = none_before (read_all (names_at start locals scope) forms);
      no_larger = omega arith;
      numbers = λ k d l. absurd (omega arith);
      stays = stays_first n scope start locals at;
    })

module _ (n : ℕ) (scope : ScopeNames) (start : List meaning.Term) (locals : List (Name × ℕ)) (forms : Forms)
    (ts : List meaning.Term) (now : List (Name × ℕ)) (ids : List ℕ) (all left : Forms) (form : Form)
    (so_far : HasRead n scope start locals forms ts now ids all) (split : all ≡ more form left) where
  -- one more form was read
  pub reads_one : (us : List meaning.Term) (next : List (Name × ℕ)) (id : ℕ) (more_ids : List ℕ)
      → (read (names_at ts now scope) form ≡ Ok (term_at us id)) × (id < length us) → Grows n ts us → next ≡ now
      → more_ids ≡ ids ++ id ∷ [] → HasRead n scope start locals forms us next more_ids left
  reads_one us next id more_ids reading grows same pushed_is =
      let names = names_at start locals scope in
      let terms : terms_at us (ids ++ id ∷ []) ≡ terms_at ts ids ++ term_at us id ∷ [] =
      map-append (term_at us) ids (id ∷ [])
      ∙ ap (λ vs. vs ++ term_at us id ∷ []) (ats_kept ts us ids grows.extends so_far.numbers) in
      subst (λ is. HasRead n scope start locals forms us next is left) (sym pushed_is) (record {
        all = one_more (λ (t : meaning.Term). t) (terms_at ts ids) (read_all names forms) (read_all names all)
            (read_all names left) (read names form) so_far.all (ap (read_all names) split) (term_at us id)
            (ap (λ ns. read ns form) (sym so_far.stays.names) ∙ reading.0)
            ∙ ap (λ done. read_all names left >>= (λ vs. Ok (done ++ vs))) (sym terms);
        no_larger = omega (arith, so_far.no_larger, size_of_more all form left split);
        numbers = numbers_push us ids id (numbers_kept ts us ids grows.extends so_far.numbers) reading.1;
        stays = stays_more n scope start locals ts us now next so_far.stays grows same;
      })

  pub reads_fault : (e : ReadFault) → Faults (read (names_at ts now scope) form) e
      → Faults (read_all (names_at start locals scope) forms) e
  reads_fault e h =
      let names = names_at start locals scope in
      one_fault (λ (t : meaning.Term). t) (terms_at ts ids) (read_all names forms) (read_all names all)
      (read_all names left) (read names form) so_far.all (ap (read_all names) split) e
      (subst (λ ns. Faults (read ns form) e) so_far.stays.names h)

pub reads_all : (n : ℕ) (scope : ScopeNames) (start : List meaning.Term) (locals : List (Name × ℕ)) (forms left : Forms)
    (ts : List meaning.Term) (now : List (Name × ℕ)) (ids : List ℕ)
    → HasRead n scope start locals forms ts now ids left → left ≡ none
    → AreRead ts (read_all (names_at start locals scope) forms) ids
reads_all n scope start locals forms left ts now ids so_far empty = record {
  terms = none_left (terms_at ts ids) (read_all (names_at start locals scope) forms)
      (read_all (names_at start locals scope) left) so_far.all (ap (read_all (names_at start locals scope)) empty);
  numbers = so_far.numbers;
}

-- the answers for a list, where what it begins with is read
module _ (names : List Naming) (others : Forms) (begun : Result Beginning Fault)
    (reading : Result meaning.Term Fault) (split : reading ≡ (begun >>= finished names others)) where
  pub front_fault : (e : ReadFault) → Faults begun e → Faults reading e
  front_fault e h = subst (λ r. Faults r e) (sym split) (faults_first begun (finished names others) e h)

  pub whole_list : (h : Head) (ts : List meaning.Term) (result : Result ℕ ReadFault) → begun ≡ Ok (whole h)
      → ReadsAs ts (applied_to h []) result → ReadsAs ts reading result
  whole_list h ts result is given =
      subst (λ r. ReadsAs ts r result) (sym (split ∙ ap (λ b. b >>= finished names others) is)) given

  pub argument_fault : (h : Head) (e : ReadFault) → begun ≡ Ok (takes h) → Faults (read_all names others) e
      → Faults reading e
  argument_fault h e is fault =
      subst (λ r. Faults r e) (sym (split ∙ ap (λ b. b >>= finished names others) is))
      (faults_first (read_all names others) (applied_to h) e fault)

  pub applied_list : (h : Head) (terms ts : List meaning.Term) (result : Result ℕ ReadFault) → begun ≡ Ok (takes h)
      → read_all names others ≡ Ok terms → ReadsAs ts (applied_to h terms) result
      → ReadsAs ts reading result
  applied_list h terms ts result is all given =
      subst (λ r. ReadsAs ts r result)
      (sym (split ∙ ap (λ b. b >>= finished names others) is ∙ ap (λ r. r >>= applied_to h) all)) given

-- the exit of a fault
pub exits : (ts : List meaning.Term) (reading : Result meaning.Term Fault) (result : Result ℕ ReadFault)
    (e y : ReadFault) → result ≡ Err y → y ≡ e → Faults reading e → ReadsAs ts reading result
exits ts reading result e y is same fault = subst (ReadsAs ts reading) (sym (is ∙ ap Err same)) fault

-- the same of what is no term
pub fault_exits : {A : Type 0} (P : A → Type 0) (Q : ReadFault → Type 0) (result : Result A ReadFault) (e y : ReadFault)
    → result ≡ Err y → y ≡ e → Q e → MatchResult result P Q
fault_exits P Q result e y is same fault = subst (λ r. MatchResult r P Q) (sym (is ∙ ap Err same)) fault

-- a fault says nothing of what is bound
pub unsaid : {A : Type 0} (P : Type 0) (result : Result A ReadFault) (y : ReadFault) → result ≡ Err y → OnOk result P
unsaid {A} P result y is = subst (λ (r : Result A ReadFault). OnOk r P) (sym is) tt

-- and what is known anyway is said of any answer
pub told : {A : Type 0} (P : Type 0) (result : Result A ReadFault) → P → OnOk result P
told P (Ok x) h = h
told P (Err e) h = tt
