use Rattle.fec_threshold.proofs.Prefixes.{least_is_one, null_shorter}
use Rattle.fec_threshold.proofs.laws.shorter_prefixes_have_more_null_words.Goals as goal

pub returns-clause-shorter : goal.returns-clause-shorter
returns-clause-shorter c m order p q word le null = null_shorter m order p q word le null

pub returns-clause-one : goal.returns-clause-one
returns-clause-one c m order p q hp hq = least_is_one m order p q hp hq
