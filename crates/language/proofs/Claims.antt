-- Every claim of this crate, proved.
use Rattle.language.specs.Claims.{Claims}
use Rattle.language.proofs.Unambiguous.{single_reading}
use Rattle.language.proofs.OneAnswer.{one_answer}
use Rattle.language.proofs.Faults.{part_is_the_word}
use Rattle.language.proofs.Answered.{exactly_recipes, fault_is_first, refused_changes_nothing, accepted_stands}
use Rattle.language.proofs.TableLaws.{table_is_judged, rows_are_the_tree}
use Rattle.language.proofs.FaultCases.{faults_found}
use Rattle.language.proofs.Evaluation.{texts_read, texts_refused, words_told}

pub claims : Claims
claims = record {
  single_reading = single_reading;
  one_answer = one_answer;
  exactly_recipes = exactly_recipes;
  fault_is_first = fault_is_first;
  part_is_the_word = part_is_the_word;
  refused_changes_nothing = refused_changes_nothing;
  accepted_stands = accepted_stands;
  table_is_judged = table_is_judged;
  rows_are_the_tree = rows_are_the_tree;
  texts_read = texts_read;
  texts_refused = texts_refused;
  faults_found = faults_found;
  words_told = words_told;
}
