use Rattle.sb_sound.proofs.TranslationFacts.{translation_is_true}
use Rattle.sb_sound.proofs.translations.translation_holds.Goals as goal

pub returns : goal.returns
returns c =
    translation_is_true c.pieces_keep_word.ensures c.sums_keep_number.ensures c.normal_has_terms_words.ensures
    c.affixes_have_their_words.ensures c.order_tells_apart.ensures
