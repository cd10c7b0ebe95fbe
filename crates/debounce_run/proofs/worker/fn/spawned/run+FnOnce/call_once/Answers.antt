use Rattle.debounce_run.proofs.worker.fn.spawned.run+FnOnce.call_once.Goals as goal

-- what the closure asks, and what is known of its parameters, in the order in which the call asks it
pub run-requires : goal.run-requires
run-requires g c =
    let still = c.requires.1.1.1.1.1.1 in
    let asked = still.1.1.1.1.1.1 in
    let sent = asked.1.1.1 in (
      still.0,
      (
        still.1.0,
        (
          still.1.1.0,
          (
            still.1.1.1.0,
            (
              still.1.1.1.1.0,
              (
                still.1.1.1.1.1.0,
                (
                  sent.0,
                  (
                    sent.1,
                    (
                      sent.2,
                      (
                        sent.3,
                        (
                          sent.4,
                          (
                            sent.5,
                            (
                              sent.6,
                              (
                                sent.7,
                                (
                                  sent.8,
                                  (asked.0, (asked.1.0, asked.1.1.0)),
                                ),
                              ),
                            ),
                          ),
                        ),
                      ),
                    ),
                  ),
                ),
              ),
            ),
          ),
        ),
      ),
    )
