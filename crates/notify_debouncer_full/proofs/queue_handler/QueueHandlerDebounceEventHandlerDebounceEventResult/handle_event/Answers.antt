use Rattle.notify_debouncer_full.proofs.queue_handler.QueueHandlerDebounceEventHandlerDebounceEventResult.handle_event.Goals as goal

pub returns-clause-handled : goal.returns-clause-handled
returns-clause-handled g c =
    rw (← c.self.view_is) (c.send.ensures.lock, (c.send.result, c.send.ensures.calls))
