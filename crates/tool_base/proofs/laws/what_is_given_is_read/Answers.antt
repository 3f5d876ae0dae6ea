use Rattle.tool_base.proofs.Readings.{answers_are_read, codecs_are_read, losses_are_read}
use Rattle.tool_base.proofs.Readings.{numbers_are_read, orders_are_read}
use Rattle.tool_base.proofs.laws.what_is_given_is_read.Goals as goal

pub returns-clause-numbers : goal.returns-clause-numbers
returns-clause-numbers c = numbers_are_read

pub returns-clause-codecs : goal.returns-clause-codecs
returns-clause-codecs c = codecs_are_read

pub returns-clause-losses : goal.returns-clause-losses
returns-clause-losses c = losses_are_read

pub returns-clause-orders : goal.returns-clause-orders
returns-clause-orders c = orders_are_read

pub returns-clause-answers : goal.returns-clause-answers
returns-clause-answers c = answers_are_read
