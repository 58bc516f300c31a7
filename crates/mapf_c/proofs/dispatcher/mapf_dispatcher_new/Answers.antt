use Rattle.std.proofs.Common.{Ok, Err}
use Rattle.mapf_c.proofs.dispatcher.mapf_dispatcher_new.Goals as goal

pub returns-in-Ok-clause-made : goal.returns-in-Ok-clause-made
returns-in-Ok-clause-made c askable = record {
  ended = Ok c.in-Ok.dispatch.value;
  told = (c.of.ensures, c.none.ensures);
  holds = record {
    found = c.in-Ok.ensures.found;
    due = c.in-Ok.ensures.due;
    fault = c.in-Ok.ensures.fault;
    inner = c.in-Ok.ensures.inner;
    readable = c.in-Ok.ensures.readable;
  };
}

pub returns-in-Err-clause-made : goal.returns-in-Err-clause-made
returns-in-Err-clause-made c askable = record {
  ended = Err c.in-Err.fault;
  told = (c.take.ensures.none, c.of-in-Err.ensures);
  holds = record {
    found = c.in-Err.ensures.found;
    due = c.in-Err.ensures.due;
    fault = c.in-Err.ensures.fault;
    inner = c.in-Err.ensures.inner;
    readable = c.in-Err.ensures.readable;
  };
}
