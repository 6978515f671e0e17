use Rattle.inputs.proofs.InputLaws.{at_input}
use Rattle.inputs.proofs.input.compile_input.Goals as goal

pub returns-clause-value : goal.returns-clause-value
returns-clause-value c = λ k. at_input _ _ _ _ _ _ _ _ _ _ _ _ _ _ _ c.skip_source-q.ensures (c.is_file-file.ensures c.args.left) c.read_payload-c.ensures c.input_vars-x.ensures.value c.input_source.ensures.value
