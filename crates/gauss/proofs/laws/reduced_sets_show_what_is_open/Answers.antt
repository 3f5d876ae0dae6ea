use Rattle.gauss.proofs.FormLaws.{closed_is_fixed, first_is_least, open_has_two, open_is}
use Rattle.gauss.proofs.laws.reduced_sets_show_what_is_open.Goals as goal

pub returns-clause-open : goal.returns-clause-open
returns-clause-open c s r unknown h = open_is s r h unknown

pub returns-clause-first : goal.returns-clause-first
returns-clause-first c s r unknown i h first = first_is_least s r h unknown i first

pub returns-clause-fixed : goal.returns-clause-fixed
returns-clause-fixed c s r x unknown h solves lt e = closed_is_fixed s r h x unknown solves lt e

pub returns-clause-two : goal.returns-clause-two
returns-clause-two c s r unknown h e = open_has_two s r h unknown e
