-- The worked runs, proved by evaluating the rules.
use mathlib.Core.Path.{refl}
use Rattle.rules.specs.Rows.{kind_of, roles_of, is_statement, is_expression, is_unknown, row_of, rows_of, absent, row_at}
use Rattle.rules.specs.Trees.{operator_of, expr_node, stmt_node, expr_in, expr_at, stmt_in, stmt_at, recipe}
use Rattle.rules.specs.Judging.{wrong_count, wrong_word, wrong_words, wrong_child, wrong_children, child_of, children, places, wrong_parents, too_deep, lowest, or_else, judge_rows, judge, judge_trace}
use Rattle.rules.specs.Marks.{none, has, put, only, union, provisional}
use Rattle.rules.specs.Values.{operate, value, holds, level}
use Rattle.rules.specs.Running.{start, guarded, skipped, assigned, opened, branched, turned, closed_marks, popped, closed, recorded, is_denied, output_attempt, begin, attempt, at_budget, follow, run}
use Rattle.rules.specs.LevelCheck.{rested, added, rounds}
use Rattle.rules.specs.Answers.{judgement, answered, terms_of, answer, trace_words_of, trace_after, advised, advice}
use Rattle.rules.specs.Cases.{words_of, memory_of, answer_to, result_of, recordless}
use Rattle.rules.specs.Starred.{starred, Starred}
use Rattle.rules.specs.Further.{further, Further, two_outputs, RoomlessGoesOn}
use Rattle.rules.specs.Refusals.{operations, grown, judgements, traced, longest, CaseJ, CaseK, Longest}

-- Whoever unfolds this unfolds every rule.
unfoldable pub rules : Unit {0}
unfolding kind_of roles_of is_statement is_expression is_unknown row_of rows_of absent row_at operator_of expr_node stmt_node expr_in expr_at stmt_in stmt_at recipe wrong_count wrong_word wrong_words wrong_child wrong_children child_of children places wrong_parents too_deep lowest or_else judge_rows judge judge_trace none has put only union provisional operate value holds level start guarded skipped assigned opened branched turned closed_marks popped closed recorded is_denied output_attempt begin attempt at_budget follow run rested added rounds judgement answered terms_of answer trace_words_of trace_after advised advice words_of memory_of answer_to result_of recordless
rules = tt

pub starred_met : Starred
unfolding rules starred
starred_met = refl

pub further_met : Further
unfolding rules further
further_met = refl

pub roomless_goes_on : RoomlessGoesOn
unfolding rules two_outputs
roomless_goes_on = (refl, refl)

pub J-met : CaseJ
unfolding rules operations
J-met = refl

pub K-met : CaseK
unfolding rules grown judgements traced
K-met = (refl, refl, refl)

pub longest_met : Longest
unfolding rules grown longest
longest_met = (refl, refl)
