use Rattle.tool_laws.proofs.OneEncoding.{encoding_one}
use Rattle.tool_laws.proofs.laws.one_encoding_for_each_object.Goals as goal

pub returns : goal.returns
returns c h draws object file other report other_report = encoding_one h draws object file other
    report other_report
