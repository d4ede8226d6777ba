-- The worked texts and words, proved by evaluating the definitions.
use mathlib.Core.Path.{refl}
use Rattle.rules.proofs.Evaluation.{rules}
use Rattle.lines.specs.Numbers.{is_digit, on_byte, digits_on, begun, number_at}
use Rattle.language.specs.Words as words
use Rattle.language.specs.Words.{is_blank, is_letter, is_joining, joins, grown, words_from}
use Rattle.language.specs.Tokens.{fixed, same, whole_number, counted, among, token_of}
use Rattle.rules.specs.Trees.{operator_number}
use Rattle.language.specs.Tables.{table_of, makes_provisional, marks_from, marks_of}
use Rattle.language.specs.Readings.{part_at, on_declared, repeated, laid, judged, sized, declared, reading_of}
use Rattle.language.specs.Cases.{TextsRead, TextsRefused, WordsTold}

pub texts_read : TextsRead
unfolding rules is_digit on_byte digits_on begun number_at is_blank is_letter is_joining joins grown words.on_byte words_from fixed same whole_number counted among token_of operator_number table_of makes_provisional marks_from marks_of on_declared repeated laid judged sized declared reading_of
texts_read = (refl, refl, refl, refl, refl, refl)

pub texts_refused : TextsRefused
unfolding rules is_digit on_byte digits_on begun number_at is_blank is_letter is_joining joins grown words.on_byte words_from fixed same whole_number counted among token_of operator_number table_of makes_provisional marks_from marks_of on_declared repeated laid judged sized declared reading_of part_at
texts_refused = (refl, refl, refl, refl, refl)

pub words_told : WordsTold
unfolding is_digit on_byte digits_on begun number_at fixed same whole_number counted among token_of
words_told = (refl, refl, refl, refl, refl, refl, refl, refl, refl, refl, refl, refl, refl, refl, refl, refl, refl)
