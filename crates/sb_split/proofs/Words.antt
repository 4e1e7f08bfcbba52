-- The words of the crates below, and of this one, that its proofs speak of.
pub use Rattle.std.proofs.Common.{Bool, IfOk, List, None, Option, Some, [], ap, ap₂, append_assoc, arith, drop, false, get_or, if◌then◌else◌, inl, inr, length, map, not, option_map, refl, slice_get, subst, suc, sym, take, true, zero, ℕ, ◌&&◌, ◌++◌, ◌+◌, ◌-◌, ◌<◌, ◌∙◌, ◌∷◌, ◌≡◌, ◌≢◌, ◌≤◌, ◌⊎◌, Err, Ok, Result, ◌^◌, ◌||◌}
pub use Rattle.std.specs.List.{All, Contains, list_all, list_any}
pub use Rattle.std.proofs.lemmas.Bool.{and_parts, and_from, false_from_ne_true, false≢true, true≢false, lt-ltb}
pub use Rattle.std.proofs.lemmas.Grind.{common_steps}
pub use Rattle.std.proofs.lemmas.List.{append-nil, get_or_append_left, length-map, map-append, take_all, take_more, length-take-le, take_at}
pub use Rattle.std.proofs.lemmas.List.Elements.{All-append, All-cons, All-contains, All-contains_itself, All-head, All-map, All-nil, All-tail, All-take, Contains-append_left, Contains-append_right, Contains-push}
pub use Rattle.std.proofs.lemmas.List.Folds.{list_all-append, list_all-map}
pub use Rattle.std.proofs.lemmas.Option.{get_or_from_slice_get, same_Some, slice_get-get_or, slice_get-map, slice_get_within}
pub use Rattle.std.proofs.lemmas.Result.{IfOk-from_err, IfOk-weaker, err_from_is_err_and, on_ok_weaker}
pub use Rattle.std.specs.Result.{IsErr, IsErrAnd}
pub use Rattle.sb_facts.proofs.CallerLemmas.{all_push}
pub use Rattle.sb_word.specs.Words.{IsWord, are_characters}
pub use Rattle.sb_lit.proofs.CallerLemmas.{negation_twice}
pub use Rattle.sb_lit.specs.Clauses.{are_ascending, literal_order}
pub use Rattle.sb_lit.specs.Kept.{Kept}
pub use Rattle.sb_lang.specs.ConstructorLaws.{MkandKeepsLanguage, MknotKeepsLanguage, MkpathKeepsLanguage}
pub use Rattle.sb_lang.specs.Constructors.{mkand, mknot, mkpath}
pub use Rattle.sb_lang.specs.Derivative.{nullable, nd_along}
pub use Rattle.sb_lang.specs.Order.{regex_eq}
pub use Rattle.sb_lang.specs.OrderLaws.{OrderTellsApart}
unfoldable pub use Rattle.sb_lang.specs.Language.{language}
pub use Rattle.sb_meaning.specs.Terms.{Sort, text}
pub use Rattle.sb_script.specs.Steps.{line}
pub use Rattle.sb_regex.proofs.CallerLemmas.{at_kept, ats_kept, extends_more, extends_same, long_kept, names_at, names_below, names_kept, number_kept, numbers_kept}
pub use Rattle.sb_regex.specs.Numbered.{AllNumbers}
pub use Rattle.sb_rulebook.proofs.CallerLemmas.{same_atom}
pub use Rattle.sb_rulebook.specs.AtomRules.{has_its_parts, is_declared, is_declared_piece, defined, with_regex}
pub use Rattle.sb_rulebook.specs.Atoms.{are_pieces, is_well_formed, le_atom, sum_atom, and_atom, iff_atom, is_same_atom}
pub use Rattle.sb_rulebook.specs.Brought.{is_brought}
pub use Rattle.sb_rulebook.specs.Follows.{by_rule, follows, not_brought}
pub use Rattle.sb_rulebook.specs.Kept.{AllKept, Asked}
pub use Rattle.sb_rulebook.specs.LineLaws.{are_small, atom_has_text, is_small, is_small_literal, is_small_piece}
pub use Rattle.sb_rulebook.specs.Lines.{atom_line, text_of}
pub use Rattle.sb_rulebook.specs.Refusals.{Refusal, not_normal, repeated, unknown_id}
pub use Rattle.sb_rulebook.specs.Translation.{with_literal}
pub use Rattle.sb_sound.proofs.CallerLemmas.{ascend_form, same_literal}
pub use Rattle.sb_sound.specs.ClauseForms.{IsSetOf}
pub use Rattle.sb_sound.specs.MembershipLaws.{IsStep, of_nullable, of_not_nullable, of_word, of_constant}
pub use Rattle.sb_proof.specs.Lines.{atom_in, piece_in}
pub use Rattle.sb_proof.specs.Tapes.{with_bytes}
pub use Rattle.sb_proof.specs.declared.tape.TapeFault.{TapeFault}
pub use Rattle.sb_deriv.specs.Faithful.{Memo}
pub use Rattle.sb_atoms.proofs.CallerLemmas.{atoms_kept, earlier_more, earlier_none, named_before, order_ascends, regexes_kept, over_one}
pub use Rattle.sb_atoms.specs.Numbered.{Extends, HasRegexBelow, IsWith, NameEarlier, AreDistinct}
pub use Rattle.sb_trace.proofs.CallerLemmas.{counts_none, counts_on, only_numbers_both, only_numbers_same, puts_both, puts_none, puts_one}
pub use Rattle.sb_trace.specs.Putting.{CountsTapeFault}
pub use Rattle.sb_trace.specs.Tracking.{OnlyNumbers, Traced, TracesUncounted, Tracks}
pub use Rattle.sb_clash.proofs.CallerLemmas.{in_all, regex_below}
pub use Rattle.sb_clash.specs.Denials.{IsDenial}
pub use Rattle.sb_clash.specs.Literals.{AreAbout, AreClashing, IsAbout, asked_by, asked_by_all, number_in}
pub use Rattle.sb_split.specs.Added.{Adds, AreDefined, AreMemberships, AreSpokenOf, IsMembership, IsSpokenOf, declares, declares_at}
pub use Rattle.sb_split.specs.Covers.{ArePaths, Covers, IsCover, IsPair, IsPath}
pub use Rattle.sb_split.specs.Defining.{AreDue, Called, DefinesAtoms, IsLineOf, IsWritten}
pub use Rattle.sb_split.specs.Fronts.{AreOf, IsOneOf, IsConstantFront, IsFrontOf, IsMember, IsStepOver, IsWithPaths, IsWordFront, is_whole}
pub use Rattle.sb_split.specs.Steps.{AreOfStep, IsConstantStep, IsEndStep, IsStepAt, IsStepInOrder, IsStepOf, IsWordStep, denied}
pub use Rattle.sb_split.specs.declared.stepping.Step.{Step}
pub use Rattle.sb_split.specs.Words.{Ascend, Atom, AtomOver, HaveRegexesBelow, Lit, Names, Piece, Regex, atoms_in, bool_atom, constant_piece, in_atom, in_order, minus, negation, of_sign, over, plus, regex_at, regexes_at, word_piece}
