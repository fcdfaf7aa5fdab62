use Rattle.row_calls.proofs.calling.call.Goals as goal

pub returns : goal.returns
returns c =
    let answered = c.exit_status.ensures.answered.1 in
    record { is_one = answered.known; refused = answered.words_only }
