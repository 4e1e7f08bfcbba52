use Rattle.std.specs.Prelude.{IfOk}
use Rattle.sb_theory.proofs.Words.{◌∙◌, [], ◌∷◌, List, ap, subst, sym, ℕ, regex_at}
use Rattle.sb_word.specs.Words.{IsWord, are_characters}
use Rattle.sb_lang.specs.Derivative.{nd_along}
use Rattle.sb_regex.specs.Numbered.{Names}
use Rattle.sb_rulebook.specs.Atoms.{are_pieces}
use Rattle.sb_proof.specs.Lines.{piece_in}
use Rattle.sb_proof.specs.declared.atom.Piece.{Piece as Part}
use Rattle.sb_theory.specs.Memberships.{piece_word}
use Rattle.sb_theory.proofs.Pieces.{word_formed}
use Rattle.sb_theory.proofs.joined.behind.Goals as goal

pub returns-in-Constant : goal.returns-in-Constant
returns-in-Constant c = record {
  ok = subst (λ (p : Part). IfOk c.behind_word.result (λ id. Names c.behind_word.new.store.arena id
      (nd_along (regex_at c.args.store.now.arena c.args.regex) (piece_word c.args.words.now (piece_in p)))))
      (sym c.in-Constant.is) c.behind_word.ensures.ok;
  word = subst (λ (p : Part). IsWord (piece_word c.args.words.now (piece_in p))) (sym c.in-Constant.is)
      c.behind_word.ensures.word;
  grows = c.behind_word.ensures.grows;
}

pub behind_characters-requires : goal.behind_characters-requires
behind_characters-requires c = record {
  known = c.requires.known;
  word = ap are_characters c.as_slice.ensures.value
      ∙ word_formed c.in-Word.characters.items
      (ap (λ (p : Part). are_pieces (piece_in p ∷ [])) (sym c.in-Word.is) ∙ c.requires.formed);
  store = c.requires.store;
}

pub returns-in-Word : goal.returns-in-Word
returns-in-Word c =
    let rs = c.behind_characters.new.store.arena in
    let r = regex_at c.args.store.now.arena c.args.regex in
    record {
      ok = subst (λ (p : Part). IfOk c.behind_characters.result
          (λ id. Names rs id (nd_along r (piece_word c.args.words.now (piece_in p))))) (sym c.in-Word.is)
          (subst (λ (w : List ℕ). IfOk c.behind_characters.result (λ id. Names rs id (nd_along r w)))
          c.as_slice.ensures.value c.behind_characters.ensures.ok);
      word = subst (λ (p : Part). IsWord (piece_word c.args.words.now (piece_in p))) (sym c.in-Word.is)
          (word_formed c.in-Word.characters.items
          (ap (λ (p : Part). are_pieces (piece_in p ∷ [])) (sym c.in-Word.is) ∙ c.requires.formed));
      grows = c.behind_characters.ensures.grows;
    }
